-- What a stable sort keeps: on each line the order in which it was found, and so that of the faults
-- of a part that all stand on one line.
use Rattle.std.proofs.Common.{◌≡◌, ℕ, ◌⊎◌, inl, inr, Bool, true, false, cond, List, [], ◌∷◌, length, map, Option, None, refl, sym, ap, subst, ◌∙◌, arith}
use Rattle.std.specs.Prelude.{All, IsPermutation, filter}
use Rattle.std.specs.Ordering.{is_lt, nat_cmp}
use Rattle.std.specs.List.{filter_map, cons_option}
use Rattle.std.specs.List.Sorted.{IsStableByKey, ties}
use Rattle.std.proofs.lemmas.List.Elements.{All-head, All-tail}
use Rattle.std.proofs.lemmas.List.Sorted.{All-permutation, length_permutation}
use Rattle.std.proofs.lemmas.Bool.Decides.{nat_tests}

-- whether two keys tie
abbrev tie : ℕ → ℕ → Bool
tie m n = ties (λ x y. is_lt (nat_cmp x y)) m n

tie_same : (m n : ℕ) → n ≡ m → tie m n ≡ true
tie_same m n e = grind (arith, nat_tests)

module _ {X Y : Type 0} (key : X → ℕ) (pick : X → Option Y) where
  -- what is picked is of this key
  abbrev pub IsOfKey : ℕ → X → Type 0
  IsOfKey n x = (pick x ≡ None) ⊎ (key x ≡ n)

  -- nothing is picked of a list of which all are left out
  pub none_picked : (xs : List X) → All (λ x. pick x ≡ None) xs → filter_map pick xs ≡ []
  none_picked [] none = refl
  none_picked (x ∷ xs) none =
      ap (λ (o : Option Y). cons_option o (filter_map pick xs)) (All-head (λ y. pick y ≡ None) x xs none)
      ∙ none_picked xs (All-tail (λ y. pick y ≡ None) x xs none)

  -- those with this key are all that are picked
  picked_of : (n : ℕ) (xs : List X) → All (IsOfKey n) xs → filter_map pick (filter (λ x. tie n (key x)) xs) ≡ filter_map pick xs
  picked_of n [] are = refl
  picked_of n (x ∷ xs) are = go (tie n (key x)) refl (All-head (IsOfKey n) x xs are) (picked_of n xs (All-tail (IsOfKey n) x xs are))
    where
      go : (b : Bool) → tie n (key x) ≡ b → IsOfKey n x → filter_map pick (filter (λ x. tie n (key x)) xs) ≡ filter_map pick xs
          → filter_map pick (cond b (x ∷ filter (λ x. tie n (key x)) xs) (filter (λ x. tie n (key x)) xs)) ≡ cons_option (pick x) (filter_map pick xs)
      go true is of rest = ap (cons_option (pick x)) rest
      go false is (inl none) rest = rest ∙ sym (ap (λ (o : Option Y). cons_option o (filter_map pick xs)) none)
      go false is (inr same) rest = absurd (let yes : tie n (key x) ≡ true = tie_same n (key x) same in cc)

  -- a stable sort by the key picks the same
  pub picked_alike : (n : ℕ) (one : X) (found said : List X) → key one ≡ n → IsPermutation found said → IsStableByKey key nat_cmp found said → All (IsOfKey n) found → filter_map pick said ≡ filter_map pick found
  picked_alike n one found said is moved stable are =
      let same : filter (λ x. tie n (key x)) said ≡ filter (λ x. tie n (key x)) found = subst (λ (m : ℕ). filter (λ x. tie m (key x)) said ≡ filter (λ x. tie m (key x)) found) is (stable one) in
      sym (picked_of n said (All-permutation (IsOfKey n) found said moved are)) ∙ (ap (filter_map pick) same ∙ picked_of n found are)

-- what is sorted keeps its order where it is looked at by a part of it
module _ {X Y : Type 0} (part : X → Y) (key : Y → ℕ) (with_part : X → Y → X) (is : (x : X) (y : Y) → part (with_part x y) ≡ y) where
  parts_left : (n : ℕ) (xs : List X) → filter (λ y. tie n (key y)) (map part xs) ≡ map part (filter (λ x. tie n (key (part x))) xs)
  parts_left n [] = refl
  parts_left n (x ∷ xs) = go (tie n (key (part x))) (parts_left n xs)
    where
      go : (b : Bool) → filter (λ y. tie n (key y)) (map part xs) ≡ map part (filter (λ x. tie n (key (part x))) xs) → cond b (part x ∷ filter (λ y. tie n (key y)) (map part xs)) (filter (λ y. tie n (key y)) (map part xs)) ≡ map part (cond b (x ∷ filter (λ x. tie n (key (part x))) xs) (filter (λ x. tie n (key (part x))) xs))
      go true rest = ap (λ (ys : List Y). part x ∷ ys) rest
      go false rest = rest

  by_one : (x : X) (xs ys : List X) → IsStableByKey (λ x. key (part x)) nat_cmp xs ys → IsStableByKey key nat_cmp (map part xs) (map part ys)
  by_one x xs ys stable y =
      let same : filter (λ x. tie (key y) (key (part x))) ys ≡ filter (λ x. tie (key y) (key (part x))) xs = subst (λ (z : Y). filter (λ x. tie (key z) (key (part x))) ys ≡ filter (λ x. tie (key z) (key (part x))) xs) (is x y) (stable (with_part x y)) in
      parts_left (key y) ys ∙ (ap (map part) same ∙ sym (parts_left (key y) xs))

  empty : (ys : List X) → length ys ≡ 0 → ys ≡ []
  empty [] e = refl
  empty (y ∷ ys) e = absurd (omega arith)

  pub stable_parts : (xs ys : List X) → IsPermutation xs ys → IsStableByKey (λ x. key (part x)) nat_cmp xs ys → IsStableByKey key nat_cmp (map part xs) (map part ys)
  stable_parts [] ys moved stable = let none : ys ≡ [] = empty ys (length_permutation [] ys moved) in subst (λ (zs : List X). IsStableByKey key nat_cmp [] (map part zs)) (sym none) (λ y. refl)
  stable_parts (x ∷ xs) ys moved stable = by_one x (x ∷ xs) ys stable

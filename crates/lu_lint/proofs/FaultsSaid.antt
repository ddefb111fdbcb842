-- What is said of faults, one after the other.
use Rattle.std.proofs.Common.{◌≡◌, ℕ, zero, suc, add-one, ◌+◌, ◌<◌, ◌≤◌, List, [], ◌∷◌, ◌++◌, length, get_or, drop, map, refl, sym, ap, ◌∙◌, arith}
use Rattle.std.proofs.Math.ListN.{drop_of_length-le}
use Rattle.std.proofs.lemmas.List.{append_assoc, append-nil, map-append}
use Rattle.lu_lint.specs.declared.remark.Said.{Said}

module _ {A : Type 0} where
  one_more : (xs : List A) (i : ℕ) (d : A) → i < length xs → drop i xs ≡ get_or xs i d ∷ drop (suc i) xs
  one_more [] i d h = absurd (omega arith)
  one_more (x ∷ xs) zero d h = refl
  one_more (x ∷ xs) (suc i) d h = one_more xs i d (omega arith)

  no_more : (xs : List A) (i : ℕ) → length xs ≤ i → drop i xs ≡ []
  no_more [] i h = drop_of_length-le [] h
  no_more (x ∷ xs) zero h = absurd (omega arith)
  no_more (x ∷ xs) (suc i) h = no_more xs i (omega arith)

-- one is said after others
pub push_more : {A : Type 0} (said : A → Said) (xs : List A) (x : A) (before now next : List Said) (one : Said) → now ≡ before ++ map said xs → one ≡ said x → next ≡ now ++ one ∷ [] → next ≡ before ++ map said (xs ++ x ∷ [])
push_more said xs x before now next one so_far is more =
    more
    ∙ (ap (λ (y : List Said). y ++ one ∷ []) so_far
    ∙ (append_assoc before (map said xs) (one ∷ [])
    ∙ (ap (λ (y : Said). before ++ (map said xs ++ y ∷ [])) is
    ∙ ap (λ (y : List Said). before ++ y) (sym (map-append said xs (x ∷ []))))))

module _ {A : Type 0} (said : A → Said) (faults : List A) (i : ℕ) (before total : List Said) (so_far : before ++ map said (drop i faults) ≡ total) where
  -- one fault more
  pub goes_on : (d : A) (one : Said) (next : List Said) → i < length faults → one ≡ said (get_or faults i d) → next ≡ before ++ one ∷ [] → next ++ map said (drop (i + 1) faults) ≡ total
  goes_on d one next within is more =
      let rest : drop i faults ≡ get_or faults i d ∷ drop (i + 1) faults = rw (add-one i) (one_more faults i d within) in
      ap (λ (x : List Said). x ++ map said (drop (i + 1) faults)) more
      ∙ (append_assoc before (one ∷ []) (map said (drop (i + 1) faults))
      ∙ (ap (λ (x : Said). before ++ x ∷ map said (drop (i + 1) faults)) is
      ∙ (ap (λ (x : List A). before ++ map said x) (sym rest) ∙ so_far)))

  -- no fault is left
  pub ends : length faults ≤ i → before ≡ total
  ends past = sym (append-nil before) ∙ (ap (λ (x : List A). before ++ map said x) (sym (no_more faults i past)) ∙ so_far)

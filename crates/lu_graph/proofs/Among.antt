-- Places in lists that grow.
use Rattle.std.proofs.Common.{arith, ◌≡◌, ℕ, zero, suc, ◌+◌, ◌<◌, ◌⊎◌, List, [], ◌∷◌, ◌++◌, Some, slice_get, map, length, refl, ◌∙◌, ap, subst, inl, inr}
use Rattle.std.specs.Prelude.{All}
use Rattle.std.proofs.lemmas.Option.{same_Some, slice_get_within, get_or_from_slice_get}
use Rattle.std.proofs.lemmas.List.Elements.{All-get_or}

module _ {A : Type 0} where
  pub at_left : (xs ys : List A) (i : ℕ) (x : A) → slice_get xs i ≡ Some x → slice_get (xs ++ ys) i ≡ Some x
  at_left [] ys i x h = absurd (cc)
  at_left (z ∷ xs) ys zero x h = h
  at_left (z ∷ xs) ys (suc i) x h = at_left xs ys i x h

  -- what stands before the end of the first list stands there
  pub at_first : (xs ys : List A) (i : ℕ) (x : A) → i < length xs → slice_get (xs ++ ys) i ≡ Some x → slice_get xs i ≡ Some x
  at_first [] ys i x lt h = absurd (omega arith)
  at_first (z ∷ xs) ys zero x lt h = h
  at_first (z ∷ xs) ys (suc i) x lt h = at_first xs ys i x (omega arith) h

  -- what stands in both lists stands in the first, or after its end in the second
  pub at_either : (xs ys : List A) (i : ℕ) (x : A) → slice_get (xs ++ ys) i ≡ Some x → ((i < length xs) × (slice_get xs i ≡ Some x)) ⊎ ((k : ℕ) × (i ≡ length xs + k) × (slice_get ys k ≡ Some x))
  at_either [] ys i x h = inr (i, omega arith, h)
  at_either (z ∷ xs) ys zero x h = inl (omega arith, h)
  at_either (z ∷ xs) ys (suc i) x h =
      elim (at_either xs ys i x h) as (λ _. ((suc i < length (z ∷ xs)) × (slice_get xs i ≡ Some x)) ⊎ ((k : ℕ) × (suc i ≡ length (z ∷ xs) + k) × (slice_get ys k ≡ Some x))) [
        | inl (lt, e) ↦ inl (omega (arith, lt), e)
        | inr (k, is, e) ↦ inr (k, omega (arith, is), e)
      ]

  pub only_one : (y : A) (i : ℕ) (x : A) → slice_get (y ∷ []) i ≡ Some x → (i ≡ 0) × (y ≡ x)
  only_one y zero x h = (refl, same_Some y x h)
  only_one y (suc i) x h = absurd (cc)

  pub all_at : (P : A → Type 0) (xs : List A) → All P xs → (i : ℕ) (x : A) → slice_get xs i ≡ Some x → P x
  all_at P xs all i x is =
      subst P (get_or_from_slice_get xs i x x is) (All-get_or P xs i x (slice_get_within xs i x is) all)

  pub at_last : (xs : List A) (x : A) → slice_get (xs ++ x ∷ []) (length xs) ≡ Some x
  at_last [] x = refl
  at_last (y ∷ xs) x = at_last xs x

-- what stands in the images is the image of what stands there
pub at_image : {A B : Type 0} (f : A → B) (xs : List A) (i : ℕ) (y : B) → slice_get (map f xs) i ≡ Some y → (x : A) × (slice_get xs i ≡ Some x) × (f x ≡ y)
at_image f [] i y h = absurd (cc)
at_image f (x ∷ xs) zero y h = (x, refl, same_Some (f x) y h)
at_image f (x ∷ xs) (suc i) y h = at_image f xs i y h

pub image_at : {A B : Type 0} (f : A → B) (xs : List A) (i : ℕ) (x : A) (y : B) → slice_get xs i ≡ Some x → f x ≡ y → slice_get (map f xs) i ≡ Some y
image_at f [] i x y h e = absurd (cc)
image_at f (z ∷ xs) zero x y h e = ap (λ w. Some (f w)) (same_Some z x h) ∙ ap Some e
image_at f (z ∷ xs) (suc i) x y h e = image_at f xs i x y h e

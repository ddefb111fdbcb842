-- Places in lists that grow.
use Rattle.std.proofs.Common.{arith, ◌≡◌, ℕ, zero, suc, ◌<◌, ◌≤◌, ◌⊎◌, inl, inr, List, [], ◌∷◌, ◌++◌, Some, slice_get, map, length, refl, ◌∙◌, ap, subst}
use Rattle.std.specs.Prelude.{All}
use Rattle.std.proofs.lemmas.Option.{same_Some, slice_get_within, get_or_from_slice_get}
use Rattle.std.proofs.lemmas.List.Elements.{All-get_or}

module _ {A : Type 0} where
  pub at_left : (xs ys : List A) (i : ℕ) (x : A) → slice_get xs i ≡ Some x → slice_get (xs ++ ys) i ≡ Some x
  at_left [] ys i x h = absurd (cc)
  at_left (z ∷ xs) ys zero x h = h
  at_left (z ∷ xs) ys (suc i) x h = at_left xs ys i x h

  -- what stands before the end of the first list stands there
  pub at_first : (xs ys : List A) (i : ℕ) (x : A) → i < length xs → slice_get (xs ++ ys) i ≡ Some x → slice_get xs i ≡ Some x
  at_first [] ys i x lt h = absurd (omega arith)
  at_first (z ∷ xs) ys zero x lt h = h
  at_first (z ∷ xs) ys (suc i) x lt h = at_first xs ys i x (omega arith) h

  pub all_at : (P : A → Type 0) (xs : List A) → All P xs → (i : ℕ) (x : A) → slice_get xs i ≡ Some x → P x
  all_at P xs all i x is =
      subst P (get_or_from_slice_get xs i x x is) (All-get_or P xs i x (slice_get_within xs i x is) all)

  pub some_at : (xs : List A) (i : ℕ) → i < length xs → (x : A) × (slice_get xs i ≡ Some x)
  some_at [] i lt = absurd (omega arith)
  some_at (x ∷ xs) zero lt = (x, refl)
  some_at (x ∷ xs) (suc i) lt = some_at xs i (omega arith)

  pub at_last : (xs : List A) (x : A) → slice_get (xs ++ x ∷ []) (length xs) ≡ Some x
  at_last [] x = refl
  at_last (y ∷ xs) x = at_last xs x

-- what stands in the images is the image of what stands there
pub at_image : {A B : Type 0} (f : A → B) (xs : List A) (i : ℕ) (y : B) → slice_get (map f xs) i ≡ Some y → (x : A) × (slice_get xs i ≡ Some x) × (f x ≡ y)
at_image f [] i y h = absurd (cc)
at_image f (x ∷ xs) zero y h = (x, refl, same_Some (f x) y h)
at_image f (x ∷ xs) (suc i) y h = at_image f xs i y h

pub image_at : {A B : Type 0} (f : A → B) (xs : List A) (i : ℕ) (x : A) (y : B) → slice_get xs i ≡ Some x → f x ≡ y → slice_get (map f xs) i ≡ Some y
image_at f [] i x y h e = absurd (cc)
image_at f (z ∷ xs) zero x y h e = ap (λ w. Some (f w)) (same_Some z x h) ∙ ap Some e
image_at f (z ∷ xs) (suc i) x y h e = image_at f xs i x y h e

-- what stands between
pub at_between : {A : Type 0} (xs : List A) (x : A) (ys : List A) → slice_get (xs ++ x ∷ ys) (length xs) ≡ Some x
at_between [] x ys = refl
at_between (z ∷ xs) x ys = at_between xs x ys

-- what stands in a list that has grown stood in it, or stands in what is new
pub in_either : {A : Type 0} (xs ys : List A) (i : ℕ) (x : A) → slice_get (xs ++ ys) i ≡ Some x → (slice_get xs i ≡ Some x) ⊎ ((length xs ≤ i) × (j : ℕ) × (slice_get ys j ≡ Some x))
in_either [] ys i x h = inr (omega arith, i, h)
in_either (z ∷ xs) ys zero x h = inl h
in_either (z ∷ xs) ys (suc i) x h =
    elim (in_either xs ys i x h) as (λ _. (slice_get (z ∷ xs) (suc i) ≡ Some x) ⊎ ((length (z ∷ xs) ≤ suc i) × (j : ℕ) × (slice_get ys j ≡ Some x))) [
      | inl old ↦ inl old
      | inr new ↦ inr (omega (arith, new.0), new.1, new.2)
    ]

-- what stands after a list begins what follows it
front_of : {A : Type 0} (ys : List A) (x : A) → slice_get ys 0 ≡ Some x → (left : List A) × (ys ≡ x ∷ left)
front_of [] x h = absurd (cc)
front_of (y ∷ ys) x h = (ys, ap (λ z. z ∷ ys) (same_Some y x h))

pub at_front : {A : Type 0} (xs ys : List A) (x : A) → slice_get (xs ++ ys) (length xs) ≡ Some x → (left : List A) × (ys ≡ x ∷ left)
at_front [] ys x h = front_of ys x h
at_front (z ∷ xs) ys x h = at_front xs ys x h

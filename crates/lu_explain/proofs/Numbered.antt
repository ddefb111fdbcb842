-- The number of the first event of a kind, place by place.
use Rattle.std.proofs.Common.{◌≡◌, ℕ, zero, suc, ◌<◌, ◌≤◌, ◌⊎◌, Bool, true, false, List, [], ◌∷◌, length, drop, min, get_or, if◌then◌else◌, inl, inr, refl, ap, sym, arith}
use Rattle.std.proofs.lemmas.Bool.{cases_lt}
use Rattle.lu_machine.specs.declared.event.Event.{Event}
use Rattle.lu_explain.specs.OrderLines.{number_of}

module _ (Kind : Event → Bool) where
  pub number_here : (h : List Event) (numbers : List ℕ) (i : ℕ) (e : Event) (d : ℕ) → i < length h → i < length numbers → Kind (get_or h i e) ≡ true → number_of Kind (drop i h) (drop i numbers) ≡ get_or numbers i d
  number_here [] numbers i e d lt room is = absurd (omega arith)
  number_here (x ∷ h) [] i e d lt room is = absurd (omega arith)
  number_here (x ∷ h) (n ∷ numbers) zero e d lt room is = ap (λ b. if b then n else number_of Kind h numbers) is
  number_here (x ∷ h) (n ∷ numbers) (suc i) e d lt room is = number_here h numbers i e d (omega arith) (omega arith) is

  pub number_later : (h : List Event) (numbers : List ℕ) (i : ℕ) (e : Event) → i < length h → i < length numbers → Kind (get_or h i e) ≡ false → number_of Kind (drop (suc i) h) (drop (suc i) numbers) ≡ number_of Kind (drop i h) (drop i numbers)
  number_later [] numbers i e lt room not = absurd (omega arith)
  number_later (x ∷ h) [] i e lt room not = absurd (omega arith)
  number_later (x ∷ h) (n ∷ numbers) zero e lt room not = sym (ap (λ b. if b then n else number_of Kind h numbers) not)
  number_later (x ∷ h) (n ∷ numbers) (suc i) e lt room not = number_later h numbers i e (omega arith) (omega arith) not

  pub number_none : (h : List Event) (numbers : List ℕ) (i : ℕ) → (length h ≤ i) ⊎ (length numbers ≤ i) → number_of Kind (drop i h) (drop i numbers) ≡ 0
  number_none [] numbers zero past = refl
  number_none [] numbers (suc i) past = refl
  number_none (x ∷ h) [] zero past = refl
  number_none (x ∷ h) [] (suc i) past = none_left h i
    where
      none_left : (h : List Event) (i : ℕ) → number_of Kind (drop i h) [] ≡ 0
      none_left [] zero = refl
      none_left [] (suc i) = refl
      none_left (x ∷ h) zero = refl
      none_left (x ∷ h) (suc i) = none_left h i
  number_none (x ∷ h) (n ∷ numbers) zero (inl le) = absurd (omega arith)
  number_none (x ∷ h) (n ∷ numbers) zero (inr le) = absurd (omega arith)
  number_none (x ∷ h) (n ∷ numbers) (suc i) (inl le) = number_none h numbers i (inl (omega arith))
  number_none (x ∷ h) (n ∷ numbers) (suc i) (inr le) = number_none h numbers i (inr (omega arith))

  -- after the shorter of both lists
  pub number_past : (h : List Event) (numbers : List ℕ) (i n : ℕ) → n ≡ min (length h) (length numbers) → n ≤ i → number_of Kind (drop i h) (drop i numbers) ≡ 0
  number_past h numbers i n least le = number_none h numbers i (elim (cases_lt i (length h)) as (λ _. (length h ≤ i) ⊎ (length numbers ≤ i)) [
    | inl lt ↦ inr (omega (arith, le, least))
    | inr past ↦ inl past
  ])

-- Numbers in an order.
use Rattle.std.proofs.Common.{◌≡◌, ℕ, zero, suc, ◌+◌, ◌<◌, Bool, true, false, ◌&&◌, ◌==◌, if◌then◌else◌, List, Option, Some, None, MatchOption, inl, inr, length, take, slice_get, refl, sym, ◌∙◌, ap, eq-eqb, arith}
use Rattle.std.specs.Option.{option_map_or, option_or}
use Rattle.std.proofs.lemmas.Bool.{cases_lt, eqb-true}
use Rattle.std.proofs.lemmas.Option.{slice_get_within}
use Rattle.lu_history.specs.declared.serial.SerialOp.{SerialOp}
use Rattle.lu_witness.specs.Witnesses.{IsEntryAt, entries}
use Rattle.lu_explain.specs.Explanations.{IsIn}
use Rattle.lu_picture.specs.Reasons.{is_entry, number_in_order}

and_left : (x y : Bool) → (x && y) ≡ true → x ≡ true
and_left true y h = refl
and_left false y h = h

and_right : (x y : Bool) → (x && y) ≡ true → y ≡ true
and_right true y h = h
and_right false y h = absurd cc

-- what the test tells
entry_at : (order : List SerialOp) (t k i : ℕ) → is_entry order t k i ≡ true → IsEntryAt order i (record { t = t; k = k })
entry_at order t k i h = by_op (slice_get order i) refl h
  where
    by_op : (o : Option SerialOp) → slice_get order i ≡ o → option_map_or (λ op. op.thread == t && length (entries t (take i order)) == k) o false ≡ true → IsEntryAt order i (record { t = t; k = k })
    by_op None at h = absurd cc
    by_op (Some op) at h =
        let counted : Bool = length (entries t (take i order)) == k in
        (op, at, eqb-true op.thread t (and_left (op.thread == t) counted h), eqb-true (length (entries t (take i order))) k (and_right (op.thread == t) counted h))

is_entry_at : (order : List SerialOp) (t k i : ℕ) → IsEntryAt order i (record { t = t; k = k }) → is_entry order t k i ≡ true
is_entry_at order t k i h =
    rw (h.1, eq-eqb h.0.thread t h.2, eq-eqb (length (entries t (take i order))) k h.3) refl

-- of the first n operations one is that call, or none
abbrev Tells : List SerialOp → ℕ → ℕ → ℕ → Option ℕ → Type 0
Tells order t k n number =
    MatchOption number ((i : ℕ) → i < n → is_entry order t k i ≡ true → ⊥)
    (λ m. (i : ℕ) × (m ≡ i + 1) × (is_entry order t k i ≡ true))

tells : (order : List SerialOp) (t k n : ℕ) → Tells order t k n (number_in_order order t k n)
tells order t k zero = λ i less entry. absurd (omega (arith, less))
tells order t k (suc n) =
    one_more (number_in_order order t k n) (tells order t k n) (is_entry order t k n) refl
  where
    one_more : (number : Option ℕ) → Tells order t k n number → (here : Bool) → is_entry order t k n ≡ here → Tells order t k (suc n) (option_or number (if here then Some (n + 1) else None))
    one_more (Some m) before here is = before
    one_more None before true is = (n, refl, is)
    one_more None before false is = λ i less entry. elim (cases_lt i n) as (λ _. ⊥) [
      | inl below ↦ before i below entry
      | inr past ↦ (let same : i ≡ n = omega (arith, less, past) in let never : true ≡ false = sym entry ∙ (ap (λ j. is_entry order t k j) same ∙ is) in absurd cc)
    ]

pub numbers_tell : (order : List SerialOp) (t k : ℕ) → MatchOption (number_in_order order t k (length order)) (IsIn order (record { t = t; k = k }) → ⊥) (λ n. (i : ℕ) × (n ≡ i + 1) × IsEntryAt order i (record { t = t; k = k }))
numbers_tell order t k =
    all (number_in_order order t k (length order)) (tells order t k (length order))
  where
    all : (number : Option ℕ) → Tells order t k (length order) number → MatchOption number (IsIn order (record { t = t; k = k }) → ⊥) (λ n. (i : ℕ) × (n ≡ i + 1) × IsEntryAt order i (record { t = t; k = k }))
    all None none = λ there. none there.0 (slice_get_within order there.0 there.1.0 there.1.1) (is_entry_at order t k there.0 there.1)
    all (Some n) told = (told.0, told.1, entry_at order t k told.0 told.2)

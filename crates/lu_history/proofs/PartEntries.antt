-- A thread's part of a history, entry by entry.
use Rattle.std.proofs.Common.{◌≡◌, ℕ, ◌+◌, ◌<◌, ◌≤◌, false, List, [], ◌∷◌, ◌++◌, map, length, get_or, Some, None, slice_get, if◌then◌else◌, inl, inr, true, take, sym, subst, ap, ◌∙◌, arith}
use Rattle.std.specs.Prelude.{nat_lt, ◌↔◌}
use Rattle.std.proofs.lemmas.Bool.{lt-ltb, ltb-true, cases_lt}
use Rattle.std.proofs.lemmas.Bool.Decides.{nat_tests}
use Rattle.std.specs.Option.{option_map}
use Rattle.std.proofs.lemmas.Option.{slice_get-get_or, slice_get-map, slice_get_past, slice_get_within}
use Rattle.std.proofs.lemmas.List.{length-append, length-map, append-nil, take_all}
use Rattle.lu_history.specs.declared.serial.SerialOutcome.TheVariants.{Stuck}
use Rattle.lu_machine.specs.declared.event.Event.{Event}
use Rattle.lu_machine.specs.declared.event.Event.TheVariants.{Return}
use Rattle.lu_machine.specs.declared.event.Outcome.{Outcome}
use Rattle.lu_history.specs.Histories.{calls, outcomes, pending, IsWellFormed, IsPending}
use Rattle.lu_history.specs.Parts.{part, as_serial}
use Rattle.lu_history.proofs.Events.{in_turn, kept_at, last_at, call_of, called_at, counted_return, return_before}

pub ltb_false : (a b : ℕ) → b ≤ a → nat_lt a b ≡ false
ltb_false a b le = grind (arith, nat_tests)

pub part_pending : (t : ℕ) (h : List Event) → length (outcomes t h) < calls t h → part t h ≡ map as_serial (outcomes t h) ++ Stuck ∷ []
part_pending t h lt = ap (λ b. map as_serial (outcomes t h) ++ (if b then Stuck ∷ [] else [])) (lt-ltb (length (outcomes t h)) (calls t h) lt)

pub part_returned : (t : ℕ) (h : List Event) → calls t h ≤ length (outcomes t h) → part t h ≡ map as_serial (outcomes t h)
part_returned t h le = ap (λ b. map as_serial (outcomes t h) ++ (if b then Stuck ∷ [] else [])) (ltb_false (length (outcomes t h)) (calls t h) le) ∙ append-nil (map as_serial (outcomes t h))

-- a part has an entry for each call
pub part_length : (h : List Event) → IsWellFormed h → (t : ℕ) → length (part t h) ≡ calls t h
part_length h is t =
    let turn = in_turn h is t in
    elim (cases_lt (length (outcomes t h)) (calls t h)) as (λ _. length (part t h) ≡ calls t h) [
      | inl lt ↦
          let e : length (part t h) ≡ length (outcomes t h) + 1 = ap length (part_pending t h lt) ∙ length-append (map as_serial (outcomes t h)) (Stuck ∷ []) ∙ ap (λ x. x + 1) (length-map (outcomes t h) as_serial) in
          omega (arith, turn.open_one)
      | inr le ↦
          let e : length (part t h) ≡ length (outcomes t h) = ap length (part_returned t h le) ∙ length-map (outcomes t h) as_serial in
          omega (arith, turn.returned)
    ]

pub part_below : (t : ℕ) (h : List Event) (k : ℕ) (d : Outcome) → k < length (outcomes t h) → slice_get (part t h) k ≡ Some (as_serial (get_or (outcomes t h) k d))
part_below t h k d lt =
    let at : slice_get (map as_serial (outcomes t h)) k ≡ Some (as_serial (get_or (outcomes t h) k d)) = slice_get-map as_serial (outcomes t h) k ∙ ap (option_map as_serial) (slice_get-get_or (outcomes t h) k d lt) in
    kept_at (map as_serial (outcomes t h)) (if pending t h then Stuck ∷ [] else []) (as_serial (get_or (outcomes t h) k d)) k at

pub part_last : (h : List Event) → IsWellFormed h → (t k : ℕ) → length (outcomes t h) ≤ k → k < calls t h → slice_get (part t h) k ≡ Some Stuck
part_last h is t k past lt =
    let turn = in_turn h is t in
    let place : k ≡ length (map as_serial (outcomes t h)) = omega (arith, turn.open_one, length-map (outcomes t h) as_serial) in
    ap (λ x. slice_get x k) (part_pending t h (omega arith)) ∙ ap (slice_get (map as_serial (outcomes t h) ++ Stuck ∷ [])) place ∙ last_at (map as_serial (outcomes t h)) [] Stuck

pub part_past : (h : List Event) → IsWellFormed h → (t k : ℕ) → calls t h ≤ k → slice_get (part t h) k ≡ None
part_past h is t k le = slice_get_past (part t h) k (omega (arith, part_length h is t))

-- a thread has more calls than returns where one of its calls is pending
pub pending_tells : (h : List Event) → IsWellFormed h → (t : ℕ) → (pending t h ≡ true) ↔ ((k : ℕ) × IsPending h (record { t = t; k = k }))
pending_tells h is t =
    let whole : take (length h) h ≡ h = take_all (length h) h (omega arith) in (
      λ e.
          let k : ℕ = length (outcomes t h) in
          let call = call_of h is (record { t = t; k = k }) (ltb-true (length (outcomes t h)) (calls t h) e) in (
            k,
            (
              (call.0, call.1),
              λ i back.
                  let at : k < length (outcomes t h) = subst (λ g. k < length (outcomes t g)) whole (counted_return h is i (length h) (record { t = t; k = k }) (slice_get_within h i (Return t k back.0) back.1) back) in
                  absurd (omega arith),
            ),
          ),
      λ p. elim (cases_lt (length (outcomes t h)) (calls t h)) as (λ _. pending t h ≡ true) [
        | inl lt ↦ lt-ltb (length (outcomes t h)) (calls t h) lt
        | inr le ↦
            let made = called_at h p.1.0.0 (record { t = t; k = p.0 }) is p.1.0.1 in
            let returned : p.0 < length (outcomes t (take (length h) h)) = subst (λ g. p.0 < length (outcomes t g)) (sym whole) (omega arith) in
            let back = return_before h is (length h) (record { t = t; k = p.0 }) returned in
            absurd (p.1.1 back.0 back.2)
      ],
    )

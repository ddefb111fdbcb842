-- What comparisons of numbers tell of the next entry, and of a whole witness.
use Rattle.std.proofs.Common.{◌≡◌, ℕ, zero, suc, ◌<◌, ◌≤◌, Bool, true, List, length, get_or, Some, slice_get, replicate, inl, inr, refl, sym, ap, ◌∙◌, arith}
use Rattle.std.specs.Prelude.{◌↔◌}
use Rattle.std.proofs.lemmas.Bool.{cases_lt}
use Rattle.std.proofs.lemmas.Option.{slice_get_within}
use Rattle.std.proofs.lemmas.List.{get_or_past}
use Rattle.lu_history.specs.declared.serial.SerialOp.{SerialOp}
use Rattle.lu_machine.specs.declared.event.Event.{Event}
use Rattle.lu_machine.specs.declared.event.Event.TheVariants.{Call}
use Rattle.lu_history.specs.Histories.{calls, IsWellFormed, IsCallAt, AreBefore}
use Rattle.lu_history.specs.Parts.{part}
use Rattle.lu_history.proofs.Events.{call_of, in_turn}
use Rattle.lu_history.proofs.PartEntries.{part_length}
use Rattle.lu_witness.specs.Witnesses.{entries}
use Rattle.lu_witness.specs.Search.{next_of, AreTaken, CanComeNext}

module _ (h : List Event) (well : IsWellFormed h) where
  pub next_tells : (p : List SerialOp) (op : SerialOp) (k : ℕ) (before taken : List ℕ) (r : Bool) → k ≡ length (entries op.thread p) → slice_get (part op.thread h) k ≡ Some op.outcome → AreBefore h (record { t = op.thread; k = k }) before → AreTaken p taken → ((r ≡ true) ↔ ((t : ℕ) → get_or before t 0 ≤ get_or taken t 0)) → (r ≡ true) ↔ CanComeNext h p op
  next_tells p op k before taken r number outcome are_before are tells = (
    λ e. record {
      outcome = ap (slice_get (part op.thread h)) (sym number) ∙ outcome;
      before = λ j u call.
          let at : IsCallAt h j (record { t = op.thread; k = k }) = call ∙ ap (λ x. Some (Call op.thread x)) (sym number) in
          omega (arith, tells.0 e u, are_before j u at, are u);
    },
    λ next.
        let called = call_of h well (record { t = op.thread; k = k }) (omega (arith, slice_get_within (part op.thread h) k op.outcome outcome, part_length h well op.thread)) in
        let at : IsCallAt h called.0 (next_of p op) = called.1 ∙ ap (λ x. Some (Call op.thread x)) number in
        tells.1 (λ t. omega (arith, next.before called.0 t at, are_before called.0 t called.1, are t)),
  )

  -- a thread past the last has nothing next
  pub no_next : (p : List SerialOp) (op : SerialOp) → 8 ≤ op.thread → CanComeNext h p op → ⊥
  no_next p op past next =
      let turn = in_turn h well op.thread in
      absurd (omega (arith, slice_get_within (part op.thread h) (length (entries op.thread p)) op.outcome next.outcome, part_length h well op.thread, turn.none past))

  pub all_taken : (taken : List ℕ) → length taken ≡ 8 → ((t : ℕ) → t < 8 → get_or taken t 0 ≡ calls t h) → (t : ℕ) → get_or taken t 0 ≡ length (part t h)
  all_taken taken l8 each t = elim (cases_lt t 8) as (λ _. get_or taken t 0 ≡ length (part t h)) [
    | inl lt ↦ omega (arith, each t lt, part_length h well t)
    | inr past ↦
        let turn = in_turn h well t in
        omega (arith, get_or_past taken t 0 (omega arith), part_length h well t, turn.none past)
  ]

pub zeros : (n t : ℕ) → ◌≡◌ {A = ℕ} (get_or (replicate n 0) t 0) 0
zeros zero t = refl
zeros (suc n) zero = refl
zeros (suc n) (suc t) = zeros n t

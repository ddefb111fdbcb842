-- What a verdict says of an ended schedule.
use Rattle.std.proofs.Common.{◌≡◌, ℕ, zero, suc, ◌+◌, ◌<◌, ◌≤◌, ◌⊎◌, true, false, List, length, map, get_or, if◌then◌else◌, Option, Some, None, slice_get, inl, inr, refl, sym, ap, subst, ◌∙◌, arith}
use Rattle.std.specs.Option.{option_map}
use Rattle.std.proofs.lemmas.Bool.{cases_lt, lt-ltb, ltb-true}
use Rattle.std.proofs.lemmas.List.{get_or_past, length-map}
use Rattle.std.proofs.lemmas.Option.{get_or_from_slice_get, slice_get-map, slice_get-get_or, slice_get_past, none-some}
use Rattle.lu_machine.specs.declared.event.Event.{Event}
use Rattle.lu_machine.specs.declared.thread.Activity.{Activity}
use Rattle.lu_machine.specs.declared.thread.Activity.TheVariants.{Idle, Open}
use Rattle.lu_machine.specs.declared.thread.Thread.{Thread}
use Rattle.lu_machine.specs.States.{State, call_count, progress, progress_of, is_open}
use Rattle.lu_machine.specs.Steps.{picks_of}
use Rattle.lu_machine.specs.Ends.{IsComplete, IsFinished, IsStuck, IsEnded, HasNoMove}
use Rattle.lu_history.specs.declared.operation.OpId.{OpId}
use Rattle.lu_history.specs.declared.serial.SerialOp.{SerialOp}
use Rattle.lu_history.specs.Histories.{IsPending, IsWellFormed, calls, outcomes, pending}
use Rattle.lu_history.specs.Standing.{Standing, Agree, standing_of}
use Rattle.lu_history.proofs.PartEntries.{pending_tells}
use Rattle.lu_witness.specs.declared.judgement.Verdict.TheVariants.{Good, NoWitness, NoWitnessFor}
use Rattle.lu_witness.specs.Witnesses.{IsVerdict}
use Rattle.lu_witness.specs.Goodness.{IsGoodAt}

standing_at : (threads : List Thread) (t : ℕ) (thread : Thread) → slice_get threads t ≡ Some thread → standing_of (map progress_of threads) t ≡ progress_of thread
standing_at threads t thread at =
    get_or_from_slice_get (map progress_of threads) t (progress_of thread) (0, false) (slice_get-map progress_of threads t ∙ ap (option_map progress_of) at)

none_past : (threads : List Thread) (t : ℕ) → slice_get threads t ≡ None → length threads ≤ t
none_past threads t at =
    elim (cases_lt t (length threads)) [
      | inl within ↦ absurd (let d : Thread = record { done = 0; activity = Idle } in let some = slice_get-get_or threads t d within in none-some (get_or threads t d) (sym at ∙ some))
      | inr past ↦ past
    ]

open_or_idle : (activity : Activity) → (is_open activity ≡ true) ⊎ (activity ≡ Idle)
open_or_idle Idle = inr refl
open_or_idle (Open f) = inl refl

module _ (s : State) (h : List Event) (agree : Agree (progress s) h) (well : IsWellFormed h) where
  -- an open operation is pending
  open_pending : (t : ℕ) (thread : Thread) → slice_get s.threads t ≡ Some thread → is_open thread.activity ≡ true → (a : OpId) × IsPending h a
  open_pending t thread at is =
      let stands : standing_of (progress s) t ≡ progress_of thread = standing_at s.threads t thread at in
      let done : length (outcomes t h) ≡ thread.done = agree.done t ∙ ap (λ (x : Standing). x.0) stands in
      let called : calls t h ≡ thread.done + 1 =
      agree.called t ∙ (ap (λ (x : Standing). x.0 + (if x.1 then 1 else 0)) stands ∙ ap (λ b. thread.done + (if b then 1 else 0)) is) in
      let number : pending t h ≡ true = lt-ltb (length (outcomes t h)) (calls t h) (omega arith) in
      let found = (pending_tells h well t).0 number in
      (record { t = t; k = found.0 }, found.1)

  -- a thread without an open operation has no pending call
  idle_alone : (a : OpId) → IsPending h a → (standing_of (progress s) a.t).1 ≡ false → ⊥
  idle_alone a is idle =
      let number : pending a.t h ≡ true = (pending_tells h well a.t).1 (a.k, is) in
      let some : length (outcomes a.t h) < calls a.t h = ltb-true (length (outcomes a.t h)) (calls a.t h) number in
      let called : calls a.t h ≡ (standing_of (progress s) a.t).0 + 0 =
      agree.called a.t ∙ ap (λ b. (standing_of (progress s) a.t).0 + (if b then 1 else 0)) idle in
      let done = agree.done a.t in
      omega arith

  idle_at : (t : ℕ) (o : Option Thread) → slice_get s.threads t ≡ o → IsFinished s t → (standing_of (progress s) t).1 ≡ false
  idle_at t None at is =
      ap (λ (x : Standing). x.1) (get_or_past (progress s) t (0, false) (rw (length-map s.threads progress_of) (none_past s.threads t at)))
  idle_at t (Some thread) at is =
      let idle = rw at at is in
      ap (λ (x : Standing). x.1) (standing_at s.threads t thread at) ∙ ap is_open idle.0

  finished_past : IsComplete s → (t : ℕ) → IsFinished s t
  finished_past complete t =
      elim (cases_lt t (length s.threads)) [ inl within ↦ complete t within | inr past ↦ rw (slice_get_past s.threads t past) tt ]

  -- where a schedule is complete, no call is pending
  pub complete_alone : IsComplete s → (a : OpId) → IsPending h a → ⊥
  complete_alone complete a is = idle_alone a is (idle_at a.t (slice_get s.threads a.t) refl (finished_past complete a.t))

  some_below : HasNoMove s → (n : ℕ) → ((a : OpId) × IsPending h a) ⊎ ((t : ℕ) → t < n → IsFinished s t)
  some_below none zero = inr (λ t lt. absurd (omega arith))
  some_below none (suc n) =
      elim (some_below none n) [
        | inl found ↦ inl found
        | inr below ↦ elim (stands_or_not n (slice_get s.threads n) refl) [
          | inl found ↦ inl found
          | inr last ↦ inr (λ t lt. elim (cases_lt t n) [ inl less ↦ below t less | inr past ↦ (let e : t ≡ n = omega arith in subst (IsFinished s) (sym e) last) ])
        ]
      ]
    where
      idle_done : (t : ℕ) (thread : Thread) → slice_get s.threads t ≡ Some thread → thread.activity ≡ Idle → call_count s t ≤ thread.done
      idle_done t thread at idle =
          elim (cases_lt thread.done (call_count s t)) [
            | inl left ↦ (let e : picks_of s t ≡ 1 = rw (at, idle, lt-ltb thread.done (call_count s t) left) refl in let no = none t in omega arith)
            | inr over ↦ over
          ]

      stands_or_not : (t : ℕ) (o : Option Thread) → slice_get s.threads t ≡ o → ((a : OpId) × IsPending h a) ⊎ IsFinished s t
      stands_or_not t None at = inr (rw at tt)
      stands_or_not t (Some thread) at =
          elim (open_or_idle thread.activity) [
            | inl is ↦ inl (open_pending t thread at is)
            | inr idle ↦ inr (rw at (idle, idle_done t thread at idle))
          ]

  -- where a schedule is stuck, some call is pending
  pub stuck_waits : IsStuck s → (a : OpId) × IsPending h a
  stuck_waits stuck =
      elim (some_below stuck.1 (length s.threads)) [ inl found ↦ found | inr all ↦ absurd (stuck.0 all) ]

  module _ (Set : List SerialOp → Type 0) (ended : IsEnded s) where
    pub judged_good : IsVerdict Set h Good → IsGoodAt Set s h
    judged_good good =
        elim ended [
          | inl complete ↦ inl (complete, good.complete (complete_alone complete))
          | inr stuck ↦ inr (stuck, good.stuck)
        ]

    pub judged_complete : IsVerdict Set h NoWitness → IsComplete s
    judged_complete is =
        elim ended [ inl complete ↦ complete | inr stuck ↦ (let found = stuck_waits stuck in absurd (is.0 found.0 found.1)) ]

    pub judged_stuck : (t : ℕ) → IsVerdict Set h (NoWitnessFor t) → IsStuck s
    judged_stuck t is =
        elim ended [
          | inl complete ↦ absurd (complete_alone complete (record { t = t; k = is.pending.0 }) is.pending.1)
          | inr stuck ↦ stuck
        ]

    pub judged_bad : IsVerdict Set h NoWitness → IsGoodAt Set s h → ⊥
    judged_bad is (inl good) = is.1 good.1
    judged_bad is (inr good) = let found = stuck_waits good.0 in is.0 found.0 found.1

    pub judged_without : (t : ℕ) → IsVerdict Set h (NoWitnessFor t) → IsGoodAt Set s h → ⊥
    judged_without t is (inl good) = complete_alone good.0 (record { t = t; k = is.pending.0 }) is.pending.1
    judged_without t is (inr good) = is.without (good.1 (record { t = t; k = is.pending.0 }) is.pending.1)

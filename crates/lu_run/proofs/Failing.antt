-- Runs that do not pass, and where.
use Rattle.std.proofs.Common.{arith, Bool, true, false, ◌≡◌, ◌≢◌, ℕ, suc, zero, ◌+◌, ◌<◌, List, [], ◌∷◌, length, take, Option, Some, None, refl, sym, subst, inl, inr, ◌⊎◌}
use Rattle.lu_component.specs.Component.{Component}
use Rattle.lu_test.specs.declared.matrix.Call.{Call as ACall}
use Rattle.lu_machine.specs.Starts.{IsStart}
use Rattle.lu_machine.specs.States.{State}
use Rattle.lu_history.specs.Parts.{keep_pending}
use Rattle.lu_serial.specs.Serial.{IsSerialHistory}
use Rattle.lu_witness.specs.Witnesses.{HasWitness}
use Rattle.lu_history.specs.declared.serial.SerialOutcome.{SerialOutcome}
use Rattle.lu_client.specs.Alone.{rest_of}
use Rattle.lu_linearization.specs.declared.configuration.Configuration.{Configuration as Kept}
use Rattle.lu_linearization.specs.Monitors.{AreInitial, CanBeStuck, Holds, by_thread}
use Rattle.lu_run.specs.declared.automaton.ThreadCall.{ThreadCall}
use Rattle.lu_run.specs.declared.judging.RunVerdict.{RunVerdict}
use Rattle.lu_run.specs.declared.judging.RunVerdict.TheVariants.{Passes, FailsAt, CannotBeStuck as NotStuck, Offends}
use Rattle.lu_run.specs.declared.run.Run.{Run}
use Rattle.lu_run.specs.declared.run.RunEvent.{RunEvent}
use Rattle.lu_run.specs.declared.table.Table.{Table}
use Rattle.lu_run.specs.Following.{NextState}
use Rattle.lu_run.specs.Judging.{EndsLost, FindsLost, HasLinearization, IsEndVerdict, IsFollowed, IsForeseen, IsGoodNow, IsNeverStuck, IsPassing, IsVerdict, NamesOffence, StuckIfPending, TellsLost}
use Rattle.lu_run.specs.Offending.{AreReached, IsFollowFault}
use Rattle.lu_run.specs.declared.following.FollowFault.{FollowFault}
use Rattle.lu_run.specs.declared.following.FollowFault.TheVariants as fault
use Rattle.lu_run.specs.Runs.{IsRun, history_of, matrix_of}
use Rattle.lu_run.proofs.Finished.{none_left, some_foreseen, some_left}
use Rattle.lu_run.proofs.Stuck.{good_tells, passing, passing_back, seat, stuck_witness, tells_good, waits, who_waits}

-- some thread has a pending call, or none has
some_pending : (pending : List (Option ThreadCall)) → ((t : ℕ) × (call : ThreadCall) × (by_thread pending t ≡ Some call)) ⊎ ((t : ℕ) → by_thread pending t ≡ None)
some_pending [] = inr (λ t. refl)
some_pending (Some call ∷ pending) = inl (zero, call, refl)
some_pending (None ∷ pending) = elim (some_pending pending) as (λ _. ((t : ℕ) × (call : ThreadCall) × (by_thread (None ∷ pending) t ≡ Some call)) ⊎ ((t : ℕ) → by_thread (None ∷ pending) t ≡ None)) [
  | inl there ↦ inl (suc there.0, there.1, there.2)
  | inr none ↦ inr (first none)
]
  where
    first : ((t : ℕ) → by_thread pending t ≡ None) → (t : ℕ) → by_thread (None ∷ pending) t ≡ None
    first none zero = refl
    first none (suc t) = none t

-- a monitor before any event has a configuration
pub not_empty : (list : List Kept) → AreInitial 0 list → list ≡ [] → ⊥
not_empty list initial empty = subst (λ xs. Holds xs (record { state = 0; effects = λ t. None })) empty ((initial (record { state = 0; effects = λ t. None })).1 (refl, λ t. refl))

-- ---- as far as the events are followed

-- none, if some configuration is left; else the first n of the events have a linearization
abbrev pub LostSoFar : State → List RunEvent → ℕ → Option ℕ → List Kept → Type 0
LostSoFar s part i None list = list ≢ []
LostSoFar s part i (Some n) list = (n < i) × HasLinearization s (take n part)

module _ (c : Component) (s : State) (calls : List ACall) (events part : List RunEvent) where
  pub lost_next : (i : ℕ) (table : Table) (pending : List (Option ThreadCall)) (returns : List (Option SerialOutcome)) (list later : List Kept) (more : List RunEvent) (lost next : Option ℕ)
      → IsForeseen c s calls events table pending returns list (history_of (take i part)) more → FindsLost lost i later next → LostSoFar s part i lost list → LostSoFar s part (i + 1) next later
  lost_next i table pending returns list later more (Some n) next was is told = subst (λ x. LostSoFar s part (i + 1) x later) (sym is) (let lt = told.0 in omega (arith, lt), told.1)
  lost_next i table pending returns list later more None None was is told = is
  lost_next i table pending returns list later more None (Some n) was is told =
      let line = some_foreseen c s calls events (take i part) table pending returns list more told was in
      (let same = is.0 in omega (arith, same), subst (λ x. HasLinearization s (take x part)) (sym is.0) line)

  -- at the end
  pub lost_told : (table : Table) (pending : List (Option ThreadCall)) (list : List Kept) (lost told : Option ℕ) → IsFollowed c s calls events table pending list (history_of part) → LostSoFar s part (length part) lost list → EndsLost lost list told → TellsLost s part told
  lost_told table pending [] None told was so_far is = absurd (so_far refl)
  lost_told table pending [] (Some n) told was so_far is = subst (TellsLost s part) (sym is) (so_far.0, so_far.1, none_left c s calls events part table pending [] refl was)
  lost_told table pending (one ∷ list) lost told was so_far is = subst (TellsLost s part) (sym is) (some_left c s calls events part table pending (one ∷ list) (λ e. absurd cc) was)

module _ (c : Component) (setup calls : List ACall) (events : List RunEvent) (s : State) (start : IsStart c (matrix_of setup calls events) s) (run : IsRun calls events) where
  module _ (table : Table) (pending : List (Option ThreadCall)) (list : List Kept) (was : IsFollowed c s calls events table pending list (history_of events)) where
    nothing_left : (xs : List Kept) → IsFollowed c s calls events table pending xs (history_of events) → (HasLinearization s events → ⊥) → xs ≡ []
    nothing_left [] is never = refl
    nothing_left (x ∷ xs) is never = absurd (never (some_left c s calls events events table pending (x ∷ xs) (λ e. absurd cc) is))

    -- a run that has no linearization does not pass
    pub lost_fails : (stuck : Bool) → (HasLinearization s events → ⊥) → IsPassing s events stuck → ⊥
    lost_fails false never pass = passing_back c setup calls events s start run table pending list was false pass (nothing_left list was never)
    lost_fails true never good =
        let empty = nothing_left list was never in
        let now : IsGoodNow table [] pending = subst (λ xs. IsGoodNow table xs pending) empty (good_tells c setup calls events s start run table pending list was good) in
        elim (some_pending pending) as (λ _. ⊥) [
          | inl there ↦
              (let a = who_waits c setup calls events s start run table pending list was there.0 there.1 there.2 in
              let lt : there.0 < 8 = subst (λ t. t < 8) a.2 (seat c setup calls events s start run table pending list was a.0 a.1) in
              let can : CanBeStuck (NextState table) there.1 [] = subst (StuckIfPending table []) there.2 (now.stuck there.0 lt) in
              can.1)
          | inr none ↦ now.complete (λ t lt. none t) refl
        ]

-- the verdict at the end
module _ (c : Component) (setup : List ACall) (bound : ℕ) (r : Run) (s : State) (start : IsStart c (matrix_of setup r.calls.items r.events.items) s) (run : IsRun r.calls.items r.events.items) (table : Table) (pending : List (Option ThreadCall)) (list : List Kept) (was : IsFollowed c s r.calls.items r.events.items table pending list (history_of r.events.items)) (line : HasLinearization s r.events.items) where
  passes_now : (stuck : Bool) → r.is_stuck ≡ stuck → IsEndVerdict stuck table list pending Passes → IsPassing s r.events.items stuck
  passes_now true at is = tells_good c setup r.calls.items r.events.items s start run table pending list was (record { complete = λ none empty. none_left c s r.calls.items r.events.items r.events.items table pending list empty was line; stuck = is })
  passes_now false at is = passing c setup r.calls.items r.events.items s start run table pending list was false (λ empty. none_left c s r.calls.items r.events.items r.events.items table pending list empty was line)

  stuck_now : (t : ℕ) (o : Option ThreadCall) → by_thread pending t ≡ o → (StuckIfPending table list (by_thread pending t) → ⊥) → IsNeverStuck s r.events.items t × (IsPassing s r.events.items true → ⊥)
  stuck_now t None e isnt = absurd (isnt (subst (StuckIfPending table list) (sym e) tt))
  stuck_now t (Some call) e isnt =
      let a = who_waits c setup r.calls.items r.events.items s start run table pending list was t call e in
      let law = stuck_witness c setup r.calls.items r.events.items s start run table pending list was a.0 a.1 (waits c setup r.calls.items r.events.items s start run table pending list was a.0 a.1) in
      let never : HasWitness (IsSerialHistory s) (keep_pending a.0.t (history_of r.events.items)) → ⊥ = λ witness. isnt (subst (StuckIfPending table list) (sym e) (subst (λ x. CanBeStuck (NextState table) x list) a.3 (law.0 witness))) in
      (record { call = a.0; of = a.2; pending = a.1; never = never }, λ good. never (good.stuck a.0 a.1))

  pub at_end : (verdict : RunVerdict) → IsEndVerdict r.is_stuck table list pending verdict → IsVerdict c bound s r verdict
  at_end Passes is = passes_now r.is_stuck refl is
  at_end (FailsAt failure) is = absurd is
  at_end (Offends t n) is = absurd is
  at_end (NotStuck t) is =
      let now = stuck_now t (by_thread pending t) refl is.1 in
      (is.0, now.0, subst (λ x. IsPassing s r.events.items x → ⊥) (sym is.0) now.1)

-- the call that offends is the verdict
pub offence_found : (c : Component) (bound : ℕ) (s : State) (r : Run) (table : Table) (stop : FollowFault) → IsFollowFault c r.calls.items bound table stop → AreReached c r.calls.items (rest_of s) table → (verdict : RunVerdict) → NamesOffence stop verdict → IsVerdict c bound s r verdict
offence_found c bound s r table (fault.Offends call) is reached verdict names = subst (IsVerdict c bound s r) (sym names) (is (rest_of s) reached)
offence_found c bound s r table fault.Memory is reached verdict names = absurd names

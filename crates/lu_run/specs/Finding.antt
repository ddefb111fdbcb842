-- The search for one linearization of a run.
use Rattle.std.specs.Prelude.{◌≡◌, ℕ, ◌+◌, Bool, true, List, drop, length, set, take, Option, Some, None, IfOk, IsSome, OnOk, Result, Vec, slice_get}
use Rattle.lu_component.specs.Component.{Component}
use Rattle.lu_test.specs.declared.matrix.Call.{Call as ACall}
use Rattle.lu_machine.specs.States.{State}
use Rattle.lu_history.specs.declared.serial.SerialOutcome.{SerialOutcome}
use Rattle.lu_client.specs.Alone.{Rest, RestAfter}
use Rattle.lu_linearization.specs.Configurations.{IsConfiguration, pending_call}
use Rattle.lu_linearization.specs.Monitors.{by_thread}
use Rattle.lu_run.specs.declared.automaton.ThreadCall.{ThreadCall}
use Rattle.lu_run.specs.declared.finding.Attempt.{Attempt}
use Rattle.lu_run.specs.declared.following.SerialRuns.{SerialRuns}
use Rattle.lu_run.specs.declared.run.RunEvent.{RunEvent}
use Rattle.lu_run.specs.declared.table.Table.{Table}
use Rattle.lu_run.specs.Following.{AreSeated, HasState, NextState}
use Rattle.lu_run.specs.Judging.{HasLinearization, InState, OfRun, call_of}
use Rattle.lu_run.specs.Runs.{history_of}

-- ---- what an attempt says

-- The attempt's pending calls are calls of the run, and its state is one of the table.
pub record IsAttempt (calls : List ACall) (table : Table) (a : Attempt) : Type 0 where
  pub seated : AreSeated calls a.pending
  pub state : HasState table a.configuration.state
  pub eight : (length a.pending ≡ 8) × (length a.configuration.effects ≡ 8)

-- After the attempt's events, the first of these, its calls are the pending ones, and its
-- configuration is that of a linearization.
pub record IsLinearized (s : State) (calls : List ACall) (events : List RunEvent) (table : Table)
    (a : Attempt) : Type 0 where
  pub pends : (t : ℕ) → by_thread a.pending t
      ≡ pending_call (call_of calls events) (history_of (take a.events events)) t
  pub linearizes : (rest : Rest) → InState table a.configuration.state rest
      → IsConfiguration (RestAfter s) (history_of (take a.events events))
      (record { state = rest; effects = by_thread a.configuration.effects })

-- So it is of the run with these events, from a start that is state 0 of the table `first`.
pub record IsSound (c : Component) (calls : List ACall) (events : List RunEvent)
    (first table : Table) (a : Attempt) : Type 0 where
  pub is : IsAttempt calls table a
  pub linearized : OfRun c calls first events (λ s. IsLinearized s calls events table a)

-- so it is of each of these attempts
abbrev pub AreSound : Component → List ACall → List RunEvent → Table → Table → List Attempt
    → Type 0
AreSound c calls events first table list =
    (i : ℕ) (a : Attempt) → slice_get list i ≡ Some a → IsSound c calls events first table a

-- if the attempt is sound, and those in the first list, with the first table, so are those in the
-- second list, with the second table
abbrev pub OpensOf : SerialRuns → List RunEvent → Attempt → Table → List Attempt → Table
    → List Attempt → Type 0
OpensOf runs events from old list new longer =
    (first : Table) → IsSound runs.component.now runs.calls.now events first old from
    → AreSound runs.component.now runs.calls.now events first old list
    → AreSound runs.component.now runs.calls.now events first new longer

-- so it is of the attempts at any run
abbrev pub Opens : {Z : Type 0} → SerialRuns → Attempt → Table → Vec Attempt Z → Table
    → Vec Attempt Z → Type 0
Opens runs from old list new longer =
    (events : List RunEvent) → OpensOf runs events from old list.items new longer.items

-- so it is of the attempts at this run, unless a serial run offends or memory ran out
abbrev pub IfOpens : {A E Z : Type 0} → SerialRuns → List RunEvent → Attempt → Table
    → Vec Attempt Z → Table → Vec Attempt Z → Result A E → Type 0
IfOpens runs events from old list new longer result =
    OnOk result (OpensOf runs events from old list.items new longer.items)

-- where it is known that the run has a linearization, it has one
abbrev pub Finds : {E : Type 0} → SerialRuns → Table → List RunEvent → Result Bool E → Type 0
Finds runs table events result =
    IfOk result (λ found. found ≡ true
    → OfRun runs.component.now runs.calls.now table events (λ s. HasLinearization s events))

-- where an attempt at the whole run is found, the run has a linearization
abbrev pub FindsAttempt : {E : Type 0} → SerialRuns → Table → List RunEvent
    → Result (Option Attempt) E → Type 0
FindsAttempt runs table events result =
    IfOk result (λ found. IsSome found
    → OfRun runs.component.now runs.calls.now table events (λ s. HasLinearization s events))

-- ---- one step

-- They have the same events, calls and configuration.
pub record IsAlike (a b : Attempt) : Type 0 where
  pub events : b.events ≡ a.events
  pub pending : b.pending ≡ a.pending
  pub configuration : b.configuration ≡ a.configuration

-- The thread makes this call.
pub record IsAfterCall (from : Attempt) (call : ThreadCall) (to : Attempt) : Type 0 where
  pub events : to.events ≡ from.events + 1
  pub pending : to.pending ≡ set from.pending call.thread (Some call)
  pub configuration : to.configuration ≡ from.configuration

-- Thread t's operation returns.
pub record IsAfterReturn (from : Attempt) (t : ℕ) (to : Attempt) : Type 0 where
  pub events : to.events ≡ from.events + 1
  pub pending : to.pending ≡ set from.pending t None
  pub state : to.configuration.state ≡ from.configuration.state
  pub effects : to.configuration.effects ≡ set from.configuration.effects t None

-- Thread t's pending operation has this outcome, which leads to this state.
pub record HasEffect (from : Attempt) (t : ℕ) (outcome : SerialOutcome) (state : ℕ) (to : Attempt)
    : Type 0 where
  pub leads : to.configuration.state ≡ state
  pub effects : to.configuration.effects ≡ set from.configuration.effects t (Some outcome)
  pub events : to.events ≡ from.events
  pub pending : to.pending ≡ from.pending

-- Thread t's pending operation takes effect.
pub record IsAfterEffect (table : Table) (from : Attempt) (t : ℕ) (to : Attempt) : Type 0 where
  pub call : ThreadCall
  pub outcome : SerialOutcome
  pub is_pending : by_thread from.pending t ≡ Some call
  pub absent : by_thread from.configuration.effects t ≡ None
  pub leads : NextState table from.configuration.state call outcome to.configuration.state
  pub effect : HasEffect from t outcome to.configuration.state to

-- the later elements of the list, from some on
abbrev pub IsLaterPart : List Attempt → List Attempt → Type 0
IsLaterPart old new = (n : ℕ) × (new ≡ drop n old)

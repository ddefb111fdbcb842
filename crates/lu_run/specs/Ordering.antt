-- The order in which the operations of a run take effect in a linearization.
use Rattle.std.specs.Prelude.{◌≡◌, ◌⊎◌, ℕ, ◌<◌, ◌≤◌, List, [], ◌∷◌, ◌++◌, length, map, take, Option, Some, IfOk, Result, Vec, slice_get}
use Rattle.lu_component.specs.Component.{Component}
use Rattle.lu_test.specs.declared.matrix.Call.{Call as ACall}
use Rattle.lu_machine.specs.declared.event.Outcome.{Outcome}
use Rattle.lu_test.specs.Matrix.{Matrix}
use Rattle.lu_machine.specs.Starts.{FromEachStart}
use Rattle.lu_machine.specs.States.{State}
use Rattle.lu_history.specs.declared.serial.SerialOp.{SerialOp}
use Rattle.lu_history.specs.declared.serial.SerialOutcome.{SerialOutcome}
use Rattle.lu_history.specs.Parts.{as_serial}
use Rattle.lu_witness.specs.Search.{next_of}
use Rattle.lu_client.specs.Alone.{Rest, RestAfter}
use Rattle.lu_linearization.specs.Configurations.{Reads, effects_in}
use Rattle.lu_linearization.specs.Linearizations.{IsLinearization}
use Rattle.lu_linearization.specs.Monitors.{by_thread}
use Rattle.lu_run.specs.declared.automaton.ThreadCall.{ThreadCall}
use Rattle.lu_run.specs.declared.finding.Attempt.{Attempt}
use Rattle.lu_run.specs.declared.following.SerialRuns.{SerialRuns}
use Rattle.lu_run.specs.declared.ordering.Replay.{Replay}
use Rattle.lu_run.specs.declared.ordering.RunOperation.{RunOperation}
use Rattle.lu_run.specs.declared.judging.RunVerdict.{RunVerdict}
use Rattle.lu_run.specs.declared.judging.RunVerdict.TheVariants.{FailsAt}
use Rattle.lu_run.specs.declared.run.Run.{Run}
use Rattle.lu_run.specs.declared.run.RunEvent.{RunEvent}
use Rattle.lu_run.specs.declared.run.RunEvent.TheVariants.{Call as Calls, Return as Returns}
use Rattle.lu_run.specs.declared.table.Table.{Table}
use Rattle.lu_run.specs.Finding.{IsAfterCall, IsAfterReturn, IsSound}
use Rattle.lu_run.specs.Judging.{InState, OfRun, call_of, thread_of}
use Rattle.lu_run.specs.Runs.{AreEventsOf, history_of, matrix_of}

-- the operation's entry in a serial history
abbrev pub entry_of : RunOperation → SerialOp
entry_of one = record { thread = one.thread; outcome = one.outcome }

abbrev pub entries_of : List RunOperation → List SerialOp
entries_of order = map entry_of order

-- each operation has the call that it makes in the run; these operations come before
abbrev pub HaveCalls : List ACall → List RunEvent → List SerialOp → List RunOperation → Type 0
HaveCalls calls events before [] = Unit {0}
HaveCalls calls events before (one ∷ order) =
    (call_of calls events (next_of before (entry_of one))
    ≡ record { thread = one.thread; call = one.call })
    × HaveCalls calls events (before ++ entry_of one ∷ []) order

-- In this order, the first n events of the run have a linearization. Each operation has its call.
pub record IsOrder (s : State) (calls : List ACall) (events : List RunEvent) (n : ℕ)
    (order : List RunOperation) : Type 0 where
  pub linearizes : IsLinearization (Reads (RestAfter s)) (entries_of order)
      (history_of (take n events))
  pub calls_are : HaveCalls calls events [] order

-- In this order, the first n events of the run have a linearization, in which the pending operation
-- of thread t has this outcome; with none, it is not in the linearization.
pub record IsOrderWith (s : State) (calls : List ACall) (events : List RunEvent) (n t : ℕ)
    (outcome : Option SerialOutcome) (order : List RunOperation) : Type 0 where
  pub is : IsOrder s calls events n order
  pub effect : effects_in (entries_of order) (history_of (take n events)) t ≡ outcome

-- no order is known, or it is one of the first n events
abbrev pub IsKnownOrder : State → List ACall → List RunEvent → ℕ → ℕ → Option SerialOutcome
    → List RunOperation → Type 0
IsKnownOrder s calls events n t outcome order =
    (order ≡ []) ⊎ IsOrderWith s calls events n t outcome order

-- what is returned, if anything is, is such an order of the runs that begin with these events
abbrev pub FindsOrder : {E Z : Type 0} → SerialRuns → Table → List RunEvent → ℕ
    → Option SerialOutcome → Result (Vec RunOperation Z) E → Type 0
FindsOrder runs table part t outcome result =
    IfOk result (λ order. (events rest : List RunEvent) → events ≡ part ++ rest
    → OfRun runs.component.now runs.calls.now table events
    (λ s. IsKnownOrder s runs.calls.now events (length part) t outcome order.items))

-- An order for a run with this verdict: where it has no linearization after an event, one of the
-- events before, in which the event's operation has the outcome that is expected; or none.
abbrev pub IsOrderFor : State → Run → RunVerdict → List RunOperation → Type 0
IsOrderFor s run (FailsAt failure) order =
    (order ≡ [])
    ⊎ ((e : RunEvent) × (slice_get run.events.items failure.event ≡ Some e)
    × IsOrderWith s run.calls.items run.events.items failure.event (thread_of e) failure.expected
    order)
IsOrderFor s run verdict order = order ≡ []

-- so it is from each start with the setup of the matrix
abbrev pub HasOrder : Component → Matrix → Run → RunVerdict → List RunOperation → Type 0
HasOrder c matrix run verdict order =
    FromEachStart c (matrix_of matrix.setup run.calls.items run.events.items)
    (λ s. IsOrderFor s run verdict order)

-- events of the same calls stay ones
abbrev pub EventsStay : List RunEvent → List RunEvent → Type 0
EventsStay old new = (calls : List ACall) → AreEventsOf calls old → AreEventsOf calls new

-- ---- how it is found

-- The order is a linearization of the attempt's events, and leads to its configuration.
pub record IsReplayed (s : State) (calls : List ACall) (events : List RunEvent) (table : Table)
    (r : Replay) : Type 0 where
  pub order : IsOrder s calls events r.attempt.events r.order.items
  pub leads : (rest : Rest) → InState table r.attempt.configuration.state rest
      → RestAfter s (entries_of r.order.items) rest
  pub effects : (t : ℕ) → effects_in (entries_of r.order.items)
      (history_of (take r.attempt.events events)) t
      ≡ by_thread r.attempt.configuration.effects t

-- So it is of the run with these events, from a start that is state 0 of the table `first`.
pub record IsReplay (c : Component) (calls : List ACall) (events : List RunEvent)
    (first table : Table) (r : Replay) : Type 0 where
  pub sound : IsSound c calls events first table r.attempt
  pub replayed : OfRun c calls first events (λ s. IsReplayed s calls events table r)

-- The operation is the pending one of thread t, which has taken effect.
pub record IsOperationOf (a : Attempt) (t : ℕ) (one : RunOperation) : Type 0 where
  pub call : ThreadCall
  pub is_pending : by_thread a.pending t ≡ Some call
  pub has_call : one.call ≡ call.call
  pub of_thread : one.thread ≡ t
  pub effect : by_thread a.configuration.effects t ≡ Some one.outcome

-- one more operation takes effect: a replay of a run stays one, of the same events
abbrev pub PlacesTo : SerialRuns → Table → Replay → Table → Replay → Type 0
PlacesTo runs old from new to =
    (to.attempt.events ≡ from.attempt.events)
    × ((events : List RunEvent) (first : Table)
    → IsReplay runs.component.now runs.calls.now events first old from
    → IsReplay runs.component.now runs.calls.now events first new to)

-- one more step within the first events of runs: a replay of a run that begins with them stays one
abbrev pub StepsTo : SerialRuns → List RunEvent → Table → Replay → Table → Replay → Type 0
StepsTo runs part old from new to =
    (from.attempt.events ≤ length part → to.attempt.events ≤ length part)
    × ((events rest : List RunEvent) (first : Table) → events ≡ part ++ rest
    → IsReplay runs.component.now runs.calls.now events first old from
    → IsReplay runs.component.now runs.calls.now events first new to)

-- a replay of the first events of runs, of just as many events
abbrev pub Replays : SerialRuns → List RunEvent → Table → Table → Replay → Type 0
Replays runs part first table r =
    (r.attempt.events ≡ length part)
    × ((events rest : List RunEvent) → events ≡ part ++ rest
    → IsReplay runs.component.now runs.calls.now events first table r)

-- the event has this number
abbrev pub IsNextEvent : List RunEvent → ℕ → RunEvent → Type 0
IsNextEvent events n e = (n < length events) × (slice_get events n ≡ Some e)

-- the thread of the event is one of eight
abbrev pub IsSeated : RunEvent → Type 0
IsSeated (Calls t n) = t < 8
IsSeated (Returns t outcome) = t < 8

-- The operation of thread t has taken effect with this outcome, and returns.
pub record ReturnsTo (t : ℕ) (outcome : Outcome) (from to : Attempt) : Type 0 where
  pub had : by_thread from.configuration.effects t ≡ Some (as_serial outcome)
  pub step : IsAfterReturn from t to

-- the replay with this event
abbrev pub FollowsTo : RunEvent → Replay → Replay → Type 0
FollowsTo (Calls t n) from to =
    (to.order ≡ from.order)
    × IsAfterCall from.attempt (record { thread = t; call = n }) to.attempt
FollowsTo (Returns t outcome) from to =
    (to.order ≡ from.order) × ReturnsTo t outcome from.attempt to.attempt

-- Runs: histories that were recorded of real code, with any number of calls.
use Rattle.std.specs.Prelude.{◌≡◌, ℕ, ◌<◌, ◌==◌, if◌then◌else◌, List, [], ◌∷◌, ◌++◌, map, length, Option, Some, None, slice_get}
use Rattle.lu_test.specs.declared.matrix.Call.{Call as ACall}
use Rattle.lu_test.specs.Matrix.{Matrix, matrix_with}
use Rattle.lu_machine.specs.declared.event.Event.{Event}
use Rattle.lu_machine.specs.declared.event.Event.TheVariants.{Call, Return}
use Rattle.lu_history.specs.Histories.{calls, outcomes}
use Rattle.lu_linearization.specs.Linearizations.{HasSequentialThreads}
use Rattle.lu_run.specs.declared.run.RunEvent.{RunEvent}
use Rattle.lu_run.specs.declared.run.RunEvent.TheVariants.{Call as Calls, Return as Returns}

-- ---- the history of a run

-- the event as the next one of a history: its operation is the last of its thread
abbrev pub next_event : List Event → RunEvent → Event
next_event h (Calls t n) = Call t (calls t h)
next_event h (Returns t outcome) = Return t (length (outcomes t h)) outcome

-- the history h, followed by these events
abbrev pub history_after : List Event → List RunEvent → List Event
history_after h [] = h
history_after h (e ∷ events) = history_after (h ++ next_event h e ∷ []) events

abbrev pub history_of : List RunEvent → List Event
history_of events = history_after [] events

-- ---- the calls of a run

-- the numbers of thread t's calls, in order
abbrev pub numbers_of : ℕ → List RunEvent → List ℕ
numbers_of t [] = []
numbers_of t (Calls u n ∷ events) =
    if u == t then n ∷ numbers_of t events else numbers_of t events
numbers_of t (Returns u outcome ∷ events) = numbers_of t events

-- the call, if there is one, as a list
abbrev pub listed : Option ACall → List ACall
listed None = []
listed (Some call) = call ∷ []

-- the calls with these numbers
abbrev pub with_numbers : List ACall → List ℕ → List ACall
with_numbers table [] = []
with_numbers table (n ∷ numbers) = listed (slice_get table n) ++ with_numbers table numbers

-- no call has two numbers
abbrev pub AreDistinct : List ACall → Type 0
AreDistinct table =
    (i j : ℕ) (call : ACall) → slice_get table i ≡ Some call → slice_get table j ≡ Some call
    → i ≡ j

-- thread t's calls, in order
abbrev pub calls_by : List ACall → List RunEvent → ℕ → List ACall
calls_by table events t = with_numbers table (numbers_of t events)

-- after this setup, the matrix of the calls that the run's eight threads make
abbrev pub matrix_of : List ACall → List ACall → List RunEvent → Matrix
matrix_of setup table events =
    matrix_with setup
    (map (calls_by table events) (0 ∷ 1 ∷ 2 ∷ 3 ∷ 4 ∷ 5 ∷ 6 ∷ 7 ∷ []))

-- the thread of the event is one of eight, and its call is one of the table
abbrev pub IsEventOf : List ACall → RunEvent → Type 0
IsEventOf table (Calls t n) = (t < 8) × (n < length table)
IsEventOf table (Returns t outcome) = t < 8

-- so it is of each event
abbrev pub AreEventsOf : List ACall → List RunEvent → Type 0
AreEventsOf table events =
    (i : ℕ) (e : RunEvent) → slice_get events i ≡ Some e → IsEventOf table e

-- The events' calls are in the table, and each thread makes one call at a time.
pub record IsRun (table : List ACall) (events : List RunEvent) : Type 0 where
  pub events_of : AreEventsOf table events
  pub sequential : HasSequentialThreads (history_of events)

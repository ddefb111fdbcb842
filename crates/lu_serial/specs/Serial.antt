-- Serial schedules, how they end, and their histories (Burckhardt, Dern, Musuvathi and Tan, 2010).
use Rattle.std.specs.Prelude.{◌≡◌, ◌≢◌, ℕ, List, [], ◌∷◌, ◌++◌, ◌⊎◌, Option, Some, None, length, slice_get}
use Rattle.lu_test.specs.declared.schedule.Move.{Move}
use Rattle.lu_machine.specs.declared.event.Event.{Event}
use Rattle.lu_machine.specs.declared.event.Event.TheVariants.{Call, Return}
use Rattle.lu_machine.specs.declared.thread.Thread.{Thread}
use Rattle.lu_machine.specs.declared.thread.Activity.TheVariants.{Idle}
use Rattle.lu_machine.specs.States.{State}
use Rattle.lu_machine.specs.Steps.{Step, IsEnabled, picks_of}
use Rattle.lu_machine.specs.Ends.{IsComplete}
use Rattle.lu_machine.specs.Runs.{Leads}
use Rattle.lu_history.specs.declared.serial.SerialOutcome.TheVariants.{Stuck}
use Rattle.lu_history.specs.declared.serial.SerialOp.{SerialOp}
use Rattle.lu_history.specs.Parts.{as_serial}

-- thread t has an operation open
abbrev pub HasOpen : State → ℕ → Type 0
HasOpen s t = (thread : Thread) × (slice_get s.threads t ≡ Some thread) × (thread.activity ≢ Idle)

-- a move that is made while an operation is open is by its thread
abbrev pub IsByOpen : State → Move → Type 0
IsByOpen s m = (t : ℕ) → HasOpen s t → m.thread ≡ t

-- each move of the schedule that is made while an operation is open is by its thread
abbrev pub IsSerialFrom : State → List Move → Type 0
IsSerialFrom s [] = Unit {0}
IsSerialFrom s (m ∷ u) =
    IsByOpen s m
    × ((next : State) (event : Option Event) → Step s m next event → IsSerialFrom next u)

-- u is a serial schedule, which leads from s to a state, with a history, at which P holds
pub record SerialRun (s : State) (u : List Move) (P : State → List Event → Type 0) : Type 0 where
  pub serial : IsSerialFrom s u
  pub end : State
  pub history : List Event
  pub leads : Leads s u end history
  pub holds : P end history

-- the serial operation that an event ends, if any
abbrev pub entry_of : Event → List SerialOp
entry_of (Call t k) = []
entry_of (Return t k outcome) = record { thread = t; outcome = as_serial outcome } ∷ []

-- a serial operation for each return, in order
abbrev pub entries_of : List Event → List SerialOp
entries_of [] = []
entries_of (e ∷ h) = entry_of e ++ entries_of h

-- thread t's operation, which can't go on
abbrev pub stuck_of : ℕ → SerialOp
stuck_of t = record { thread = t; outcome = Stuck }

-- The state is complete, or the thread of the open operation is not enabled; and q is the serial
-- history.
abbrev pub EndsAs : State → List Event → List SerialOp → Type 0
EndsAs end history q =
    (IsComplete end × (q ≡ entries_of history))
    ⊎ ((t : ℕ) × HasOpen end t × (picks_of end t ≡ 0) × (q ≡ entries_of history ++ stuck_of t ∷ []))

-- u is serially ended, with the serial history q
abbrev pub IsSeriallyEnded : State → List Move → List SerialOp → Type 0
IsSeriallyEnded s u q = SerialRun s u (λ end history. EndsAs end history q)

-- q is the history of some serially ended schedule
abbrev pub IsSerialHistory : State → List SerialOp → Type 0
IsSerialHistory s q = (u : List Move) × IsSeriallyEnded s u q

-- one of the moves of u calls an operation of thread t, which leads to the state called, and these
-- moves are after it
pub record HasCall (s : State) (u : List Move) (t : ℕ) (called : State)
    (after : List Move) : Type 0 where
  pub before : List Move
  pub move : Move
  pub parts : u ≡ before ++ move ∷ after
  pub idle : State
  pub history : List Event
  pub begins : Leads s before idle history
  pub number : ℕ
  pub step : Step idle move called (Some (Call t number))

-- u leads to the state end; one of its moves calls an operation of thread t, and n moves without an
-- event follow.
pub record HasTaken (s : State) (u : List Move) (end : State) (t n : ℕ) : Type 0 where
  pub called : State
  pub after : List Move
  pub call : HasCall s u t called after
  pub count : length after ≡ n
  pub goes_on : Leads called after end []

-- thread t makes these moves from s, and none of them but perhaps the last has an event
abbrev pub RunsToEvent : State → ℕ → List Move → Type 0
RunsToEvent s t [] = Unit {0}
RunsToEvent s t (m ∷ []) = m.thread ≡ t
RunsToEvent s t (m ∷ n ∷ u) =
    (m.thread ≡ t) × (next : State) × Step s m next None × RunsToEvent next t (n ∷ u)

-- an operation of u takes n moves after its call: they are of its thread, and none but perhaps the
-- last, which is the return, has an event
pub record Takes (s : State) (u : List Move) (n : ℕ) : Type 0 where
  pub thread : ℕ
  pub called : State
  pub after : List Move
  pub rest : List Move
  pub call : HasCall s u thread called (after ++ rest)
  pub count : length after ≡ n
  pub goes_on : RunsToEvent called thread after

-- the open operation has taken `bound` moves after its call, and its thread is enabled
abbrev pub IsSeriallyCut : State → ℕ → List Move → Type 0
IsSeriallyCut s bound u =
    SerialRun s u (λ end _. (t : ℕ) × HasOpen end t × IsEnabled end t × HasTaken s u end t bound)

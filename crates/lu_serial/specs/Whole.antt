-- Serial schedules that end with a whole entry, and the calls made in them.
use Rattle.std.specs.Prelude.{◌≡◌, ℕ, ◌+◌, ◌⊎◌, if◌then◌else◌, List, [], ◌∷◌, ◌++◌, map}
use Rattle.lu_test.specs.declared.schedule.Move.{Move}
use Rattle.lu_machine.specs.declared.event.Event.{Event}
use Rattle.lu_machine.specs.declared.thread.Thread.{Thread}
use Rattle.lu_machine.specs.States.{State, is_open}
use Rattle.lu_machine.specs.Steps.{picks_of}
use Rattle.lu_history.specs.declared.serial.SerialOp.{SerialOp}
use Rattle.lu_serial.specs.Serial.{HasOpen, SerialRun, entries_of, stuck_of}

-- no operation is open
abbrev pub IsQuiet : State → Type 0
IsQuiet s = (t : ℕ) → HasOpen s t → ⊥

-- No operation is open, or the thread of the open one is not enabled; and q are the entries so far,
-- with `Stuck` for the open one.
abbrev pub EndsWhole : State → List Event → List SerialOp → Type 0
EndsWhole end history q =
    (IsQuiet end × (q ≡ entries_of history))
    ⊎ ((t : ℕ) × HasOpen end t × (picks_of end t ≡ 0) × (q ≡ entries_of history ++ stuck_of t ∷ []))

-- u is a serial schedule that ends with a whole entry, and q are its entries
abbrev pub IsSeriallyWhole : State → List Move → List SerialOp → Type 0
IsSeriallyWhole s u q = SerialRun s u (λ end history. EndsWhole end history q)

-- how many calls a thread has made: those that have ended, and the open one
abbrev pub made : Thread → ℕ
made thread = if is_open thread.activity then thread.done + 1 else thread.done

-- for each thread how many calls it has made
abbrev pub made_calls : State → List ℕ
made_calls s = map made s.threads

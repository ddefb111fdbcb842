-- Two serial runs that make the same calls and differ in the outcome of the last.
use Rattle.std.specs.Prelude.{ℕ, Bool, true, false, ◌++◌, List, [], ◌∷◌, take, length, codes, Option, Some, None, MatchOption, slice_get, Result, IfOk, String, Vec}
use Rattle.std.specs.Option.{option_map_or}
use Rattle.std.specs.Fmt.{decimal}
use Rattle.lu_text.specs.Writing.{Writes}
use Rattle.lu_component.specs.Component.{Component}
use Rattle.lu_test.specs.declared.schedule.Move.{Move}
use Rattle.lu_test.specs.Matrix.{Matrix}
use Rattle.lu_machine.specs.declared.event.Event.{Event}
use Rattle.lu_machine.specs.declared.thread.Activity.{Activity}
use Rattle.lu_machine.specs.declared.thread.Activity.TheVariants.{Idle, Open}
use Rattle.lu_machine.specs.States.{State}
use Rattle.lu_machine.specs.Runs.{with_event}
use Rattle.lu_machine.specs.Starts.{FromEachStart}
use Rattle.lu_history.specs.declared.serial.SerialOp.{SerialOp}
use Rattle.lu_history.specs.declared.serial.SerialOutcome.{SerialOutcome}
use Rattle.lu_history.specs.declared.serial.SerialOutcome.TheVariants.{Ret, Trap, Stuck}
use Rattle.lu_serial.specs.Serial.{HasOpen, IsSeriallyEnded, entries_of, stuck_of}
use Rattle.lu_witness.specs.Witnesses.{entries}
use Rattle.lu_explain.specs.Lines.{entry_line, operation_words, order_text}

-- ---- the history of a serial schedule

-- u is a serially ended schedule
abbrev pub EndsSerially : List Move → State → Type 0
EndsSerially u s = (q : List SerialOp) × IsSeriallyEnded s u q

-- its history is q
abbrev pub IsHistoryOf : Component → Matrix → List Move → List SerialOp → Type 0
IsHistoryOf c matrix u q = FromEachStart c matrix (λ s. IsSeriallyEnded s u q)

-- that is the result, unless memory ran out
abbrev pub TellsHistory : {Z E : Type 0} → Component → Matrix → List Move
    → Result (Vec SerialOp Z) E → Type 0
TellsHistory c matrix u result = IfOk result (λ entries. IsHistoryOf c matrix u entries.items)

abbrev pub is_busy : Activity → Bool
is_busy Idle = false
is_busy (Open f) = true

-- whether thread t has an operation open
abbrev pub is_open : State → ℕ → Bool
is_open s t = option_map_or (λ thread. is_busy thread.activity) (slice_get s.threads t) false

-- a thread that has an operation open, or none has one
abbrev pub TellsOpen : State → Option ℕ → Type 0
TellsOpen s found = MatchOption found ((t : ℕ) → HasOpen s t → ⊥) (HasOpen s)

-- the operation that an event ends, if any
abbrev pub returned : Option Event → List SerialOp
returned event = entries_of (with_event event [])

-- the thread's operation, which is stuck
abbrev pub stuck_entries : Option ℕ → List SerialOp
stuck_entries None = []
stuck_entries (Some t) = stuck_of t ∷ []

-- ---- the text of both runs

-- the same operation with another outcome
abbrev pub with_outcome : SerialOp → SerialOutcome → SerialOp
with_outcome op o = record { thread = op.thread; outcome = o }

-- the lines of a run: of these operations, and of the one after them
abbrev pub run_text : Component → Matrix → List SerialOp → SerialOp → List ℕ
run_text c matrix before op = order_text c matrix before ++ entry_line c matrix before op

-- how a call ends, in words
abbrev pub ends_words : SerialOutcome → List ℕ
ends_words (Ret n) = codes "returns " ++ decimal n
ends_words Trap = codes "traps"
ends_words Stuck = codes "blocks"

-- `after T0 put 1, `: the calls that both runs begin with
abbrev pub after_words : Component → Matrix → List SerialOp → List ℕ
after_words c matrix [] = []
after_words c matrix (op ∷ []) = codes "after " ++ operation_words c matrix op.thread 0 ++ codes ", "
after_words c matrix (op ∷ next ∷ more) =
    codes "after the same " ++ decimal (length (op ∷ next ∷ more)) ++ codes " calls, "

-- the call after these
abbrev pub call_after : Component → Matrix → List SerialOp → SerialOp → List ℕ
call_after c matrix before op =
    operation_words c matrix op.thread (length (entries op.thread before))

-- `after T0 put 1, T1 take returns 1 in this serial run and blocks in another`
abbrev pub difference_line : Component → Matrix → List SerialOp → SerialOp → SerialOutcome → List ℕ
difference_line c matrix before op o =
    after_words c matrix before ++ call_after c matrix before op ++ codes " "
    ++ ends_words op.outcome ++ codes " in this serial run and " ++ ends_words o
    ++ codes " in another\n"

-- both runs, which begin with these operations, and what differs: the outcome of op, which is o in
-- the other
abbrev pub both_runs : Component → Matrix → List SerialOp → SerialOutcome → SerialOp → List ℕ
both_runs c matrix before o op =
    codes "this serial run\n" ++ run_text c matrix before op ++ codes "another serial run\n"
    ++ run_text c matrix before (with_outcome op o) ++ difference_line c matrix before op o

-- the run with the history q, and one that differs from it in the outcome of operation i
abbrev pub conflict_text : Component → Matrix → List SerialOp → ℕ → SerialOutcome → List ℕ
conflict_text c matrix q i o = option_map_or (both_runs c matrix (take i q) o) (slice_get q i) []

-- ---- texts in memory, unless memory ran out

-- the text grows by the line that says what differs
abbrev pub AddsDifference : {T E Z : Type 0} → Result T E → String Z → String Z → Component
    → Matrix → List SerialOp → SerialOp → SerialOutcome → Type 0
AddsDifference result old new c matrix before op o =
    Writes result old new (difference_line c matrix before op o)

-- by both runs, and what differs
abbrev pub AddsRuns : {T E Z : Type 0} → Result T E → String Z → String Z → Component → Matrix
    → List SerialOp → SerialOp → SerialOutcome → Type 0
AddsRuns result old new c matrix before op o =
    Writes result old new (both_runs c matrix before o op)

-- the same of operation i of the history q
abbrev pub AddsConflict : {T E Z : Type 0} → Result T E → String Z → String Z → Component → Matrix
    → List SerialOp → ℕ → SerialOutcome → Type 0
AddsConflict result old new c matrix q i o = Writes result old new (conflict_text c matrix q i o)

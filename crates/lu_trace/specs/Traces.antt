-- Traces: what a schedule does, line by line.
use Rattle.std.specs.Prelude.{◌≡◌, ℕ, zero, suc, ◌+◌, ◌++◌, List, [], ◌∷◌, Option, Some, None, MatchBool, Result, OnOk, String, string_bytes}
use Rattle.lu_component.specs.Component.{Component as AComponent}
use Rattle.lu_test.specs.declared.schedule.Move.{Move}
use Rattle.lu_test.specs.Matrix.{Matrix}
use Rattle.lu_machine.specs.declared.event.Event.{Event}
use Rattle.lu_machine.specs.declared.event.Status.{Status}
use Rattle.lu_machine.specs.States.{State}
use Rattle.lu_machine.specs.Steps.{OneStep, is_at_local, more_local}
use Rattle.lu_machine.specs.Starts.{IsStart}
pub use Rattle.lu_machine.specs.Plays.{Plays, IsInfeasibleAt}
use Rattle.lu_machine.specs.Ends.{HasStatus}
use Rattle.lu_trace.specs.declared.fault.TraceFault.{TraceFault}
use Rattle.lu_trace.specs.declared.fault.TraceFault.TheVariants.{Infeasible, Memory}
use Rattle.lu_trace.specs.declared.detail.Detail.{Detail}
use Rattle.lu_trace.specs.declared.detail.Detail.TheVariants.{EachStep}
use Rattle.lu_trace.specs.declared.wording.Wording.{Wording}
use Rattle.lu_trace.specs.declared.wording.Wording.TheVariants.{Component}
use Rattle.lu_trace.specs.Lines.{all_waits, shown_line, status_line}

-- Thread t runs on from the state s to the state `end` by at most n local instructions, and each
-- has its line, without a number, where it is shown in this detail.
abbrev pub LocalLines : Detail → Wording → ℕ → State → ℕ → State → List ℕ → Type 0
LocalLines detail how zero s t end lines = (end ≡ s) × (lines ≡ [])
LocalLines detail how (suc n) s t end lines =
    MatchBool (is_at_local s t)
    ((next : State) × (rest : List ℕ)
    × OneStep s (record { thread = t; pick = 0 }) next None × LocalLines detail how n next t end rest
    × (lines ≡ shown_line detail how None s (record { thread = t; pick = 0 }) ++ rest))
    ((end ≡ s) × (lines ≡ []))

-- The move m leads from the state s to the state `new`: its first step has the line of its number,
-- and the local instructions after it have theirs.
abbrev pub MoveLines : Detail → Wording → ℕ → State → Move → State → List ℕ → Type 0
MoveLines detail how number s m new lines =
    (mid : State) × (event : Option Event) × (rest : List ℕ)
    × OneStep s m mid event × LocalLines detail how (more_local s m.thread) mid m.thread new rest
    × (lines ≡ shown_line detail how (Some number) s m ++ rest)

-- The schedule leads from the state s to the state `end`, and these are the lines of its moves,
-- which are numbered from `number` on.
abbrev pub TraceLines : Detail → Wording → ℕ → State → List Move → State → List ℕ → Type 0
TraceLines detail how number s [] end lines = (end ≡ s) × (lines ≡ [])
TraceLines detail how number s (m ∷ u) end lines =
    (next : State) × (first : List ℕ) × (rest : List ℕ)
    × MoveLines detail how number s m next first × TraceLines detail how (number + 1) next u end rest
    × (lines ≡ first ++ rest)

-- The trace of the schedule in this detail and in these words: how the state stands that it leads
-- to, the lines of its moves from 0 on, and what each blocked thread waits for in the end.
abbrev pub IsDetailedTrace : Detail → Wording → AComponent → Matrix → List Move → List ℕ → Type 0
IsDetailedTrace detail how c matrix u text =
    (start : State) × (end : State) × (status : Status) × (lines : List ℕ)
    × IsStart c matrix start × TraceLines detail how 0 start u end lines × HasStatus end status
    × (text ≡ status_line status ++ lines ++ all_waits how end)

-- the trace of each step
abbrev pub IsWordedTrace : Wording → AComponent → Matrix → List Move → List ℕ → Type 0
IsWordedTrace how c matrix u text = IsDetailedTrace EachStep how c matrix u text

-- the trace in the words of the component's text
abbrev pub IsTrace : AComponent → Matrix → List Move → List ℕ → Type 0
IsTrace c matrix u text = IsWordedTrace Component c matrix u text

abbrev pub IsDetailedText : {Z : Type 0} → Detail → Wording → AComponent → Matrix → List Move
    → String Z → Type 0
IsDetailedText detail how c matrix u text = IsDetailedTrace detail how c matrix u (string_bytes text)

abbrev pub IsTraceText : {Z : Type 0} → AComponent → Matrix → List Move → String Z → Type 0
IsTraceText c matrix u text = IsTrace c matrix u (string_bytes text)

-- the fault of the schedule; refused memory can come with any
abbrev pub IsTraceFault : AComponent → Matrix → List Move → TraceFault → Type 0
IsTraceFault c matrix u (Infeasible i) = IsInfeasibleAt c matrix u i
IsTraceFault c matrix u Memory = Unit {0}

-- ---- texts that grow

-- the new text is the old one and such lines
abbrev pub AddsLines : (List ℕ → Type 0) → List ℕ → List ℕ → Type 0
AddsLines Are old new = (lines : List ℕ) × Are lines × (new ≡ old ++ lines)

abbrev pub AddsText : {Z : Type 0} → (List ℕ → Type 0) → String Z → String Z → Type 0
AddsText Are old new = AddsLines Are (string_bytes old) (string_bytes new)

-- where it succeeds the text grows by such lines
abbrev pub WritesLines : {T E Z : Type 0} → Result T E → String Z → String Z → (List ℕ → Type 0)
    → Type 0
WritesLines result old new Are = OnOk result (AddsText Are old new)

-- where it succeeds the text grows by the lines of a move
abbrev pub WritesMove : {T E Z : Type 0} → Result T E → String Z → String Z → Detail → Wording
    → ℕ → State → Move → State → Type 0
WritesMove result old new detail how number s m end =
    WritesLines result old new (MoveLines detail how number s m end)

-- and by those of the local instructions of thread t
abbrev pub WritesLocals : {T E Z : Type 0} → Result T E → String Z → String Z → Detail → Wording
    → ℕ → State → ℕ → State → Type 0
WritesLocals result old new detail how most s t end =
    WritesLines result old new (LocalLines detail how most s t end)

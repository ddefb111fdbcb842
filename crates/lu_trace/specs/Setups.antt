-- Traces from the setup: what its calls do, what the threads find, and then the trace.
use Rattle.std.specs.Prelude.{◌≡◌, ℕ, zero, suc, ◌<◌, ◌++◌, if◌then◌else◌, List, [], ◌∷◌, length, codes, Option, Some, None, slice_get, Result, String, string_bytes}
use Rattle.std.specs.Option.{option_map_or}
use Rattle.std.specs.Fmt.{decimal}
use Rattle.lu_component.specs.Component.{Component as AComponent}
use Rattle.lu_lang.specs.ComponentText.{array_word, lock_word}
use Rattle.lu_test.specs.declared.matrix.Call.{Call}
use Rattle.lu_test.specs.declared.schedule.Move.{Move}
use Rattle.lu_test.specs.Matrix.{Matrix, alone}
use Rattle.lu_machine.specs.declared.test.Test.{Test}
use Rattle.lu_machine.specs.declared.event.Event.{Event}
use Rattle.lu_machine.specs.States.{State, cell_of, value_at, owner_of}
use Rattle.lu_machine.specs.Steps.{OneStep, IsFeasible}
use Rattle.lu_machine.specs.Starts.{IsStart, MakesAll, empty_state, first_move}
use Rattle.lu_trace.specs.declared.detail.Detail.{Detail}
use Rattle.lu_trace.specs.declared.detail.Detail.TheVariants.{EachStep}
use Rattle.lu_trace.specs.declared.wording.Wording.{Wording}
use Rattle.lu_trace.specs.declared.wording.Wording.TheVariants.{Component}
use Rattle.lu_trace.specs.Lines.{is_left_out, step_words}
use Rattle.lu_trace.specs.Traces.{IsDetailedTrace, WritesLines}

-- the blanks before the words of a line without a number and a thread
abbrev pub indent : List ℕ
indent = codes "     "

-- ---- the calls

-- the line of what thread 0 does next, in the state s, where it is shown in this detail
abbrev pub setup_line : Detail → Wording → State → List ℕ
setup_line detail how s =
    if is_left_out detail how None s first_move then []
    else indent ++ step_words how s first_move ++ codes "\n"

-- Thread 0 leads from the state s to the state `end` by this many calls and instructions, each pick
-- 0, and these are their lines in this detail.
abbrev pub SetupLines : Detail → Wording → ℕ → State → State → List ℕ → Type 0
SetupLines detail how zero s end lines = (end ≡ s) × (lines ≡ [])
SetupLines detail how (suc n) s end lines =
    (next : State) × (event : Option Event) × (rest : List ℕ)
    × OneStep s first_move next event × SetupLines detail how n next end rest
    × (lines ≡ setup_line detail how s ++ rest)

-- These calls, which one thread makes alone as a setup does, have these lines.
pub record AreSetupLines (detail : Detail) (how : Wording) (c : AComponent) (calls : List Call)
    (lines : List ℕ) : Type 0 where
  pub end : State
  pub made : MakesAll c calls (length calls) end
  pub steps : ℕ
  pub lines_are : SetupLines detail how steps (empty_state c (alone calls)) end lines

-- what stands before these lines: nothing where there are no calls
abbrev pub setup_heading : List Call → List ℕ
setup_heading [] = []
setup_heading (call ∷ calls) = codes "setup\n"

-- the lines from the state s to the state `end`, of this many steps or of all that thread 0 can
-- make
abbrev pub LinesUpTo : Detail → Wording → ℕ → State → State → List ℕ → Type 0
LinesUpTo detail how most s end lines =
    (steps : ℕ) × SetupLines detail how steps s end lines
    × (steps < most → IsFeasible end first_move → ⊥)

-- ---- what the threads find

-- the value of cell i of array w
abbrev pub value_text : State → ℕ → ℕ → List ℕ
value_text s w i =
    option_map_or (λ p. codes " " ++ decimal (value_at s p)) (cell_of s.component w i) []

-- the values of the first n cells of array w
abbrev pub values_text : State → ℕ → ℕ → List ℕ
values_text s w zero = []
values_text s w (suc n) = values_text s w n ++ value_text s w n

-- the number of the cells of array w
abbrev pub cell_count : AComponent → ℕ → ℕ
cell_count c w = option_map_or (λ array. array.len) (slice_get c.arrays w) 0

-- the line of array w: its name, and the value of each cell
abbrev pub array_values_line : State → ℕ → List ℕ
array_values_line s w =
    indent ++ array_word s.component w ++ codes " is"
    ++ values_text s w (cell_count s.component w) ++ codes "\n"

-- the lines of the first n arrays
abbrev pub array_lines : State → ℕ → List ℕ
array_lines s zero = []
array_lines s (suc n) = array_lines s n ++ array_values_line s n

-- whether a lock is free, and else who has it
abbrev pub holder_text : Option ℕ → List ℕ
holder_text None = codes " is free\n"
holder_text (Some t) = codes " is taken by thread " ++ decimal t ++ codes "\n"

-- the line of lock l
abbrev pub lock_owner_line : State → ℕ → List ℕ
lock_owner_line s l = indent ++ lock_word s.component l ++ holder_text (owner_of s l)

-- the lines of the first n locks
abbrev pub lock_lines : State → ℕ → List ℕ
lock_lines s zero = []
lock_lines s (suc n) = lock_lines s n ++ lock_owner_line s n

-- the lines of all arrays
abbrev pub all_array_lines : State → List ℕ
all_array_lines s = array_lines s (length s.component.arrays)

-- the lines of all locks
abbrev pub all_lock_lines : State → List ℕ
all_lock_lines s = lock_lines s (length s.component.locks)

-- the lines of all arrays, and of all locks
abbrev pub found_lines : State → List ℕ
found_lines s = all_array_lines s ++ all_lock_lines s

-- ---- the whole

-- The trace of the schedule from the setup on, in this detail and in these words: the lines of the
-- setup's calls, the cells and locks at the start, and the trace.
abbrev pub IsDetailedTraceFromSetup : Detail → Wording → AComponent → Matrix → List Move → List ℕ
    → Type 0
IsDetailedTraceFromSetup detail how c matrix u text =
    (lines : List ℕ) × (start : State) × (trace : List ℕ)
    × AreSetupLines detail how c matrix.setup lines × IsStart c matrix start
    × IsDetailedTrace detail how c matrix u trace
    × (text ≡ setup_heading matrix.setup ++ lines ++ codes "start\n" ++ found_lines start ++ trace)

-- that trace of each step, in the words of the component's text
abbrev pub IsTraceFromSetup : AComponent → Matrix → List Move → List ℕ → Type 0
IsTraceFromSetup c matrix u text = IsDetailedTraceFromSetup EachStep Component c matrix u text

abbrev pub IsDetailedFromSetup : {Z : Type 0} → Detail → Wording → AComponent → Matrix → List Move
    → String Z → Type 0
IsDetailedFromSetup detail how c matrix u text =
    IsDetailedTraceFromSetup detail how c matrix u (string_bytes text)

abbrev pub IsTextFromSetup : {Z : Type 0} → AComponent → Matrix → List Move → String Z → Type 0
IsTextFromSetup c matrix u text = IsTraceFromSetup c matrix u (string_bytes text)

-- where it succeeds the text grows by the lines from one state to another
abbrev pub WritesUpTo : {T E Z : Type 0} → Result T E → String Z → String Z → Detail → Wording
    → ℕ → State → State → Type 0
WritesUpTo result old new detail how most s end =
    WritesLines result old new (LinesUpTo detail how most s end)

-- and by those of the test's setup
abbrev pub WritesSetup : {T E Z : Type 0} → Result T E → String Z → String Z → Detail → Wording
    → Test → Type 0
WritesSetup result old new detail how test =
    WritesLines result old new (AreSetupLines detail how test.component.now test.matrix.now.setup)

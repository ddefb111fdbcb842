-- The lines of a trace.
use Rattle.std.specs.Prelude.{ℕ, zero, suc, ◌+◌, ◌++◌, ◌==◌, ◌&&◌, nat_lt, if◌then◌else◌, Bool, true, false, List, [], ◌∷◌, length, codes, Option, Some, None, slice_get}
use Rattle.std.specs.Option.{option_map_or}
use Rattle.std.specs.List.{repeat, join_with_byte, list_any}
use Rattle.std.specs.Fmt.{decimal}
use Rattle.lu_component.specs.declared.instr.Instr.{Instr}
use Rattle.lu_component.specs.declared.instr.Instr.TheVariants.{Compute, Jump, JumpIfZero}
use Rattle.lu_component.specs.Operands.{operand_word}
use Rattle.lu_component.specs.Component.{Component as AComponent}
use Rattle.lu_lang.specs.declared.keyword.Keyword.TheVariants as keyword
use Rattle.lu_lang.specs.Words.{keyword_word}
use Rattle.lu_lang.specs.ComponentText.{instr_words, label_text, leads_to}
use Rattle.lu_test.specs.declared.matrix.Call.{Call}
use Rattle.lu_test.specs.declared.schedule.Move.{Move}
use Rattle.lu_test.specs.Matrix.{calls_of}
use Rattle.lu_test.specs.MatrixText.{call_text}
use Rattle.lu_machine.specs.declared.event.Status.{Status}
use Rattle.lu_machine.specs.declared.event.Status.TheVariants.{Running, Complete, Stuck}
use Rattle.lu_machine.specs.declared.thread.Activity.{Activity}
use Rattle.lu_machine.specs.declared.thread.Activity.TheVariants.{Idle, Open}
use Rattle.lu_machine.specs.declared.thread.Frame.{Frame}
use Rattle.lu_machine.specs.States.{State, instr_at}
use Rattle.lu_machine.specs.Steps.{is_at_local, is_blocked, is_local, more_local}
use Rattle.lu_trace.specs.declared.detail.Detail.{Detail}
use Rattle.lu_trace.specs.declared.detail.Detail.TheVariants.{EachStep, SharedSteps}
use Rattle.lu_trace.specs.declared.wording.Wording.{Wording}
use Rattle.lu_trace.specs.declared.wording.Wording.TheVariants.{Component, Labelled, Source}
use Rattle.lu_trace.specs.Wordings.{is_within_line, place_word, source_line}
use Rattle.lu_trace.specs.Deeds.{deed, awaited}

-- the first line
abbrev pub status_line : Status → List ℕ
status_line Running = codes "trace running\n"
status_line Complete = codes "trace complete\n"
status_line Stuck = codes "trace stuck\n"

-- ---- one line

-- blanks that fill up a number to four columns
abbrev pub margin : ℕ → List ℕ
margin n =
    if nat_lt n 10 then codes "   "
    else if nat_lt n 100 then codes "  "
    else if nat_lt n 1000 then codes " "
    else []

-- a move's number, or four blanks
abbrev pub number_text : Option ℕ → List ℕ
number_text None = codes "    "
number_text (Some n) = margin n ++ decimal n

-- the 24 blanks of a thread's column
abbrev pub column : List ℕ
column = codes "                        "

-- what a line of thread t begins with: the number or none, and in the thread's column its name
abbrev pub line_head : Option ℕ → ℕ → List ℕ
line_head number t =
    number_text number ++ codes " " ++ repeat t column ++ codes "T" ++ decimal t ++ codes " "

-- a line of thread t
abbrev pub line : Option ℕ → ℕ → List ℕ → List ℕ
line number t words = line_head number t ++ words ++ codes "\n"

-- ---- steps

-- the code of an operation
abbrev pub code_of_operation : AComponent → ℕ → List Instr
code_of_operation c op = option_map_or (λ o. o.code) (slice_get c.operations op) []

-- the instruction at the operation's place as the component's text has it, and what begins a remark
abbrev pub component_line : AComponent → Frame → Instr → List ℕ
component_line c f instr =
    label_text (code_of_operation c f.op) f.place ++ join_with_byte 32 (instr_words c instr)
    ++ codes "  # "

-- a label and a space, where some jump of the code of operation `op` leads to the place
abbrev pub named_label : List (List (Option (List ℕ))) → ℕ → List Instr → ℕ → List ℕ
named_label labels op code place =
    if list_any (leads_to place) code then place_word labels op place ++ codes ": " else []

-- the words of an instruction of operation `op`: a jump names the label to which it leads
abbrev pub labelled_words : List (List (Option (List ℕ))) → AComponent → ℕ → Instr
    → List (List ℕ)
labelled_words labels c op (Jump target) =
    keyword_word keyword.Jump ∷ place_word labels op target ∷ []
labelled_words labels c op (JumpIfZero v target) =
    keyword_word keyword.JumpIfZero ∷ operand_word v ∷ place_word labels op target ∷ []
labelled_words labels c op i = instr_words c i

-- one space between them
abbrev pub labelled_instr : List (List (Option (List ℕ))) → AComponent → ℕ → Instr → List ℕ
labelled_instr labels c op i = join_with_byte 32 (labelled_words labels c op i)

-- the instruction at the operation's place with the labels that the component's text has, and what
-- begins a remark
abbrev pub labelled_line : List (List (Option (List ℕ))) → AComponent → Frame → Instr → List ℕ
labelled_line labels c f instr =
    named_label labels f.op (code_of_operation c f.op) f.place
    ++ labelled_instr labels c f.op instr ++ codes "  # "

-- what the instruction at the operation's place is shown by, and what begins a remark
abbrev pub head_of : Wording → AComponent → Frame → Instr → List ℕ
head_of Component c f instr = component_line c f instr
head_of (Labelled labels) c f instr = labelled_line labels.now c f instr
head_of (Source lines origins) c f instr =
    source_line lines.now origins.now f

-- a call as a matrix has it
abbrev pub call_words : AComponent → Call → List ℕ
call_words c call = codes "call " ++ call_text c.operations call

-- the next call of thread t, which has made this many
abbrev pub next_call : State → ℕ → ℕ → List ℕ
next_call s t done =
    option_map_or (λ call. call_words s.component call) (slice_get (calls_of s.matrix t) done) []

-- the next instruction of the operation f, and what it does by the move m
abbrev pub next_instr : Wording → State → Move → Frame → List ℕ
next_instr how s m f =
    option_map_or (λ instr. head_of how s.component f instr ++ deed how s m f instr)
    (instr_at s.component f.op f.place) []

-- what a thread that stands so does next
abbrev pub next_move_words : Wording → State → Move → ℕ → Activity → List ℕ
next_move_words how s m done Idle = next_call s m.thread done
next_move_words how s m done (Open f) = next_instr how s m f

-- what the thread of the move m does next, in the state s
abbrev pub step_words : Wording → State → Move → List ℕ
step_words how s m =
    option_map_or (λ thread. next_move_words how s m thread.done thread.activity)
    (slice_get s.threads m.thread) []

-- the line of that, with the number or none
abbrev pub step_line : Wording → Option ℕ → State → Move → List ℕ
step_line how number s m = line number m.thread (step_words how s m)

-- ---- which lines are shown

-- whether the instruction after this place in the code of operation `op` is local
abbrev pub is_local_after : AComponent → ℕ → ℕ → Bool
is_local_after c op place =
    option_map_or is_local (slice_get (code_of_operation c op) (place + 1)) false

-- Arithmetic in a test is shown by the last of its steps: a value without a name is left out where
-- the next instruction, which is local, comes from the same line of a source.
abbrev pub is_partial : Wording → AComponent → Frame → Instr → Bool
is_partial how c f (Compute by to a b) =
    is_within_line how f to && is_local_after c f.op f.place
is_partial how c f i = false

abbrev pub activity_is_partial : Wording → State → Activity → Bool
activity_is_partial how s Idle = false
activity_is_partial how s (Open f) =
    option_map_or (is_partial how s.component f) (instr_at s.component f.op f.place) false

-- whether thread t computes such a value next
abbrev pub is_at_partial : Wording → State → ℕ → Bool
is_at_partial how s t =
    option_map_or (λ thread. activity_is_partial how s thread.activity) (slice_get s.threads t)
    false

-- whether the step of the move m can go without a line: it has no number, or no step without one
-- comes after it
abbrev pub is_dispensable : Option ℕ → State → Move → Bool
is_dispensable None s m = true
is_dispensable (Some number) s m = more_local s m.thread == 0

-- whether the next step of a move has a line
abbrev pub is_left_out : Detail → Wording → Option ℕ → State → Move → Bool
is_left_out EachStep how number s m = is_dispensable number s m && is_at_partial how s m.thread
is_left_out SharedSteps how number s m = is_at_local s m.thread

-- its line where it has one
abbrev pub shown_line : Detail → Wording → Option ℕ → State → Move → List ℕ
shown_line detail how number s m =
    if is_left_out detail how number s m then [] else step_line how number s m

-- ---- waits

-- a blocked instruction's line, with what it waits for; nothing where it is not blocked
abbrev pub waiting : Wording → State → ℕ → Frame → Instr → List ℕ
waiting how s t f instr =
    if is_blocked s f instr
    then line None t (head_of how s.component f instr ++ awaited how s f instr) else []

abbrev pub activity_wait : Wording → State → ℕ → Activity → List ℕ
activity_wait how s t Idle = []
activity_wait how s t (Open f) =
    option_map_or (waiting how s t f) (instr_at s.component f.op f.place) []

-- the line of what thread t waits for, where it is blocked
abbrev pub thread_wait : Wording → State → ℕ → List ℕ
thread_wait how s t =
    option_map_or (λ thread. activity_wait how s t thread.activity) (slice_get s.threads t) []

-- what each of the first n threads waits for
abbrev pub waits : Wording → State → ℕ → List ℕ
waits how s zero = []
waits how s (suc n) = waits how s n ++ thread_wait how s n

-- what each thread waits for
abbrev pub all_waits : Wording → State → List ℕ
all_waits how s = waits how s (length s.threads)

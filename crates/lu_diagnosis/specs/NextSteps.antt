-- What each thread can do next after a schedule.
use Rattle.std.specs.Prelude.{◌≡◌, ℕ, zero, suc, ◌++◌, if◌then◌else◌, List, [], codes, length, String, string_bytes, slice_get}
use Rattle.std.specs.Option.{option_map_or}
use Rattle.std.specs.Fmt.{decimal}
use Rattle.lu_component.specs.declared.instr.Instr.{Instr}
use Rattle.lu_component.specs.Component.{Component}
use Rattle.lu_test.specs.declared.schedule.Move.{Move}
use Rattle.lu_test.specs.Matrix.{Matrix}
use Rattle.lu_machine.specs.declared.event.Event.{Event}
use Rattle.lu_machine.specs.declared.thread.Activity.{Activity}
use Rattle.lu_machine.specs.declared.thread.Activity.TheVariants.{Idle, Open}
use Rattle.lu_machine.specs.declared.thread.Frame.{Frame}
use Rattle.lu_machine.specs.Plays.{Plays}
use Rattle.lu_machine.specs.States.{State, instr_at}
use Rattle.lu_machine.specs.Steps.{is_blocked, picks_of}
use Rattle.lu_trace.specs.declared.wording.Wording.{Wording}
use Rattle.lu_trace.specs.Deeds.{awaited}
use Rattle.lu_trace.specs.Lines.{step_words}

-- `  T0 line 7: while busy == 1 {  # = 1, continues`: these words of thread t
abbrev pub thread_line : ℕ → List ℕ → List ℕ
thread_line t words = codes "  T" ++ decimal t ++ codes " " ++ words ++ codes "\n"

-- ---- moves

-- the line of a move
abbrev pub move_line : Wording → State → Move → List ℕ
move_line how s m = thread_line m.thread (step_words how s m)

-- the lines of thread t's first n moves from here
abbrev pub move_lines : Wording → State → ℕ → ℕ → List ℕ
move_lines how s t zero = []
move_lines how s t (suc n) =
    move_lines how s t n ++ move_line how s (record { thread = t; pick = n })

-- those of all its moves
abbrev pub moves_of : Wording → State → ℕ → List ℕ
moves_of how s t = move_lines how s t (picks_of s t)

-- ---- waits

-- the line of what thread t waits for at an instruction, where it is blocked
abbrev pub wait_at : Wording → State → ℕ → Frame → Instr → List ℕ
wait_at how s t f instr =
    if is_blocked s f instr then thread_line t (awaited how s f instr) else []

abbrev pub activity_wait : Wording → State → ℕ → Activity → List ℕ
activity_wait how s t Idle = []
activity_wait how s t (Open f) =
    option_map_or (wait_at how s t f) (instr_at s.component f.op f.place) []

-- the line of what thread t waits for, where it is blocked
abbrev pub wait_line : Wording → State → ℕ → List ℕ
wait_line how s t =
    option_map_or (λ thread. activity_wait how s t thread.activity) (slice_get s.threads t) []

-- ---- all threads

-- a line for each move that thread t can make, or what it waits for
abbrev pub thread_next : Wording → State → ℕ → List ℕ
thread_next how s t = moves_of how s t ++ wait_line how s t

-- the same of the first n threads
abbrev pub first_next : Wording → State → ℕ → List ℕ
first_next how s zero = []
first_next how s (suc n) = first_next how s n ++ thread_next how s n

-- and of all
abbrev pub all_next : Wording → State → List ℕ
all_next how s = first_next how s (length s.threads)

-- ---- after a schedule

-- the schedule leads to this state
abbrev pub LeadsTo : Component → Matrix → List Move → State → Type 0
LeadsTo c matrix u end = (history : List Event) × Plays c matrix u end history

-- the text has what each thread can do next after the schedule
abbrev pub IsNextSteps : Wording → Component → Matrix → List Move → List ℕ → Type 0
IsNextSteps how c matrix u text =
    (end : State) × LeadsTo c matrix u end × (text ≡ all_next how end)

abbrev pub IsNextStepsText : {Z : Type 0} → Wording → Component → Matrix → List Move → String Z
    → Type 0
IsNextStepsText how c matrix u text = IsNextSteps how c matrix u (string_bytes text)

-- How a machine keeps the code of operations and the calls of threads.
use Rattle.std.specs.Prelude.{ℕ, ◌-◌, ◌<◌, ◌==◌, Bool, false, not, if◌then◌else◌, List, ◌++◌, length, map, replicate, Option, Some, None, is_some}
use Rattle.std.specs.Option.{option_map, option_map_or}
use Rattle.lu_component.specs.declared.instr.Instr.{Instr}
use Rattle.lu_component.specs.declared.instr.Operand.{Operand}
use Rattle.lu_component.specs.declared.instr.Instr.TheVariants.{Lock, Await, AwaitNot, Jump}
use Rattle.lu_component.specs.Component.{Component, IsOperand}
use Rattle.lu_test.specs.declared.matrix.Call.{Call}
use Rattle.lu_machine.specs.declared.thread.Frame.{Frame}
use Rattle.lu_machine.specs.declared.program.Agenda.{Agenda}
use Rattle.lu_machine.specs.declared.program.Task.{Task}
use Rattle.lu_machine.specs.declared.program.Wait.{Wait}
use Rattle.lu_machine.specs.declared.program.Wait.TheVariants.{Unowned, Equal, Differs}
use Rattle.lu_machine.specs.Effects.{value_of}
use Rattle.lu_machine.specs.States.{State, cell_at, instr_at, owner_of, value_at}
use Rattle.lu_machine.specs.Steps.{choices, opened}

-- what an instruction waits for, if it waits
abbrev pub wait_of : Instr → Option Wait
wait_of (Lock l) = Some (Unowned l)
wait_of (Await w i v) = Some (Equal w i v)
wait_of (AwaitNot w i v) = Some (Differs w i v)
wait_of _ = None

-- an instruction with what is asked of it at each move
abbrev pub task_of : Instr → Task
task_of instr = record { picks = choices instr; wait = wait_of instr; instr = instr }

-- after the code
abbrev pub no_task : Task
no_task = record { picks = 0; wait = None; instr = Jump 0 }

-- a task for each instruction, and after them no tasks, up to 65 in all
abbrev pub task_row : List Instr → List Task
task_row code = map task_of code ++ replicate (65 - length code) no_task

-- the tasks of each operation
abbrev pub rows_of : Component → List (List Task)
rows_of c = map (λ o. task_row o.code) c.operations

-- the task at the place of the operation f
abbrev pub task_at : Component → Frame → Task
task_at c f = option_map_or task_of (instr_at c f.op f.place) no_task

-- whether the cell has the operand's value: none where its array has no such cell
abbrev pub equals : State → Frame → ℕ → Operand → Operand → Option Bool
equals s f array index value =
    option_map (λ p. value_at s p == value_of f value) (cell_at s f array index)

-- whether the operation f has to wait
abbrev pub has_to_wait : State → Frame → Wait → Bool
has_to_wait s f (Unowned l) = is_some (owner_of s l)
has_to_wait s f (Equal w i v) =
    option_map_or (λ p. not (value_at s p == value_of f v)) (cell_at s f w i) false
has_to_wait s f (Differs w i v) =
    option_map_or (λ p. value_at s p == value_of f v) (cell_at s f w i) false

-- how many picks a task of the operation f has: none where it waits
abbrev pub task_picks : State → Frame → Task → ℕ
task_picks s f task = if option_map_or (has_to_wait s f) task.wait false then 0 else task.picks

-- s has the lock or the array that is waited for
abbrev pub IsAwaitable : State → Wait → Type 0
IsAwaitable s (Unowned l) = l < length s.component.locks
IsAwaitable s (Equal w i v) = (w < length s.component.arrays) × IsOperand i × IsOperand v
IsAwaitable s (Differs w i v) = (w < length s.component.arrays) × IsOperand i × IsOperand v

-- after the last call
abbrev pub no_frame : Frame
no_frame = record { op = 0; place = 0; registers = replicate 8 0 }

-- the number of a thread's calls, and each as it is opened
abbrev pub agenda_of : List Call → Agenda
agenda_of calls = record {
  count = length calls;
  frames = map opened calls ++ replicate (8 - length calls) no_frame;
}

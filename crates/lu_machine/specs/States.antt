-- The states of a component and a matrix as they are run.
use Rattle.std.specs.Prelude.{ℕ, ◌+◌, Bool, true, false, List, length, map, take, sum_by, nat_lt, if◌then◌else◌, Option, Some, None, slice_get, slice_set, slice_index, option_and_then}
use Rattle.std.specs.List.{slice_index_or}
use Rattle.lu_component.specs.declared.component.Array.{Array}
use Rattle.lu_component.specs.declared.instr.Instr.{Instr}
use Rattle.lu_component.specs.declared.instr.Operand.{Operand}
use Rattle.lu_component.specs.Component.{Component}
use Rattle.lu_test.specs.Matrix.{Matrix, calls_of}
use Rattle.lu_machine.specs.declared.thread.Activity.{Activity}
use Rattle.lu_machine.specs.declared.thread.Activity.TheVariants.{Idle, Open}
use Rattle.lu_machine.specs.declared.thread.Frame.{Frame}
use Rattle.lu_machine.specs.declared.thread.Thread.{Thread}
use Rattle.lu_machine.specs.Effects.{value_of}

-- What is run, the value of each cell of the arrays (one array after the other), the owner of each
-- lock, and where each thread stands.
pub record State : Type 0 where
  pub component : Component
  pub matrix : Matrix
  pub cells : List ℕ
  pub locks : List (Option ℕ)
  pub threads : List Thread

-- the number of cells before those of array w
unfoldable pub first_cell : List Array → ℕ → ℕ
first_cell arrays w = sum_by (λ a. a.len) (take w arrays)

-- where cell i of array w stands among all cells: nowhere at or past the array's length
unfoldable pub cell_of : Component → ℕ → ℕ → Option ℕ
cell_of c w i =
    option_and_then (λ a. if nat_lt i a.len then Some (first_cell c.arrays w + i) else None)
    (slice_get c.arrays w)

-- the instruction at this place of the operation
unfoldable pub instr_at : Component → ℕ → ℕ → Option Instr
instr_at c op place = option_and_then (λ o. slice_get o.code place) (slice_get c.operations op)

-- the instruction at the place of the operation f
abbrev pub current_instr : State → Frame → Option Instr
current_instr s f = instr_at s.component f.op f.place

-- the number of calls of thread t
abbrev pub call_count : State → ℕ → ℕ
call_count s t = length (calls_of s.matrix t)

-- the value of the cell at p
abbrev pub value_at : State → ℕ → ℕ
value_at s p = slice_index s.cells p

-- the thread that owns lock l, or nobody
abbrev pub owner_of : State → ℕ → Option ℕ
owner_of s l = slice_index_or s.locks l None

-- the number of the cell that an instruction of the operation f names: array w at this index
abbrev pub cell_at : State → Frame → ℕ → Operand → Option ℕ
cell_at s f w i = cell_of s.component w (value_of f i)

-- s with this value in the cell at p
abbrev pub with_cell : State → ℕ → ℕ → State
with_cell s p n = record s { cells = slice_set s.cells p n }

-- s with this owner of lock l
abbrev pub with_owner : State → ℕ → Option ℕ → State
with_owner s l owner = record s { locks = slice_set s.locks l owner }

-- s with thread t standing so
abbrev pub with_standing : State → ℕ → Thread → State
with_standing s t thread = record s { threads = slice_set s.threads t thread }

-- whether an operation is open
abbrev pub is_open : Activity → Bool
is_open Idle = false
is_open (Open f) = true

-- the number of a thread's operations that have ended, and whether one more is open
abbrev pub progress_of : Thread → ℕ × Bool
progress_of thread = (thread.done, is_open thread.activity)

-- the progress of each thread
abbrev pub progress : State → List (ℕ × Bool)
progress s = map progress_of s.threads

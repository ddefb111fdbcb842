-- How a machine keeps its state.
use Rattle.std.specs.Prelude.{◌≡◌, ℕ, ◌+◌, ◌^◌, ◌<◌, ◌≤◌, List, [], ◌∷◌, length, map, Option, Some, IfSome, slice_get, All}
use Rattle.lu_component.specs.declared.component.Array.{Array}
use Rattle.lu_component.specs.declared.instr.Instr.{Instr}
use Rattle.lu_component.specs.Component.{Component, IsComponent, IsInstr}
use Rattle.lu_test.specs.Matrix.{IsMatrix, IsOf, Matrix, thread_count}
use Rattle.lu_machine.specs.declared.span.Span.{Span}
use Rattle.lu_machine.specs.declared.thread.Activity.{Activity}
use Rattle.lu_machine.specs.declared.thread.Activity.TheVariants.{Idle, Open}
use Rattle.lu_machine.specs.declared.thread.Frame.{Frame}
use Rattle.lu_machine.specs.declared.thread.Thread.{Thread}
use Rattle.lu_machine.specs.declared.thread.OperationBefore.{OperationBefore}
use Rattle.lu_machine.specs.declared.program.Agenda.{Agenda}
use Rattle.lu_machine.specs.declared.program.Task.{Task}
use Rattle.lu_machine.specs.States.{State, first_cell, instr_at}
use Rattle.lu_machine.specs.Tasks.{agenda_of, rows_of}

-- where the cells of the arrays stand, after this many others
abbrev pub spans_of : ℕ → List Array → List Span
spans_of before [] = []
spans_of before (a ∷ arrays) =
    record { first = before; len = a.len } ∷ spans_of (before + a.len) arrays

-- an open operation is one of the eight calls that a thread makes at most
abbrev pub HasRoom : ℕ → Activity → Type 0
HasRoom done Idle = Unit {0}
HasRoom done (Open f) = done < 8

-- a thread can stand so
abbrev pub IsStanding : Thread → Type 0
IsStanding thread = HasRoom thread.done thread.activity

-- an open operation is one of the component's, at a place of its code or right after
abbrev pub IsInCode : Component → Activity → Type 0
IsInCode c Idle = Unit {0}
IsInCode c (Open f) = (f.op < length c.operations) × (f.place ≤ 64)

-- the operation that a thread has open, if it has one, is at such a place
abbrev pub StandsIn : Component → Thread → Type 0
StandsIn c thread = IsInCode c thread.activity

-- so was the operation of which this was kept
abbrev pub WasIn : Component → OperationBefore → Type 0
WasIn c was = (was.op < length c.operations) × (was.place ≤ 64)

-- where a thread is put back, of whose operation this was kept, it still stands in the component
abbrev pub StaysIn : OperationBefore → Thread → Thread → Type 0
StaysIn was after before =
    (c : Component) → WasIn c was → StandsIn c after → StandsIn c before

-- the operation of a thread that stood so, if one was open, is one of the component's
abbrev pub StoodIn : Component → Thread → OperationBefore → Type 0
StoodIn c standing was =
    (f : Frame) → standing.activity ≡ Open f → StandsIn c standing → WasIn c was

-- the operation of thread t of s, if one was open, is one of the component's
abbrev pub ThreadStoodIn : State → ℕ → OperationBefore → Type 0
ThreadStoodIn s t was =
    (standing : Thread) (f : Frame) → slice_get s.threads t ≡ Some standing
    → standing.activity ≡ Open f → WasIn s.component was

-- a span for each array, a row of tasks for each operation, each thread's calls as they are opened,
-- and as many cells, locks and threads as the component and the matrix have
pub record IsLaidOut (c : Component) (matrix : Matrix) (spans : List Span)
    (rows : List (List Task)) (agendas : List Agenda)
    (cells : List ℕ) (locks : List (Option ℕ)) (threads : List Thread) : Type 0 where
  pub component : IsComponent c
  pub matrix_is : IsMatrix matrix
  pub matrix_of : IsOf matrix c
  pub spans_are : spans ≡ spans_of 0 c.arrays
  pub rows_are : rows ≡ rows_of c
  pub agendas_are : agendas ≡ map agenda_of matrix.threads
  pub cells_are : length cells ≡ first_cell c.arrays (length c.arrays)
  pub cells_fit : length cells < 2 ^ 64
  pub locks_are : length locks ≡ length c.locks
  pub threads_are : length threads ≡ thread_count matrix
  pub stand : All IsStanding threads
  pub in_code : All (StandsIn c) threads

-- the instruction stands at a place of code, and what it names is there
pub record IsSound (s : State) (f : Frame) (instr : Instr) : Type 0 where
  pub place : f.place < 64
  pub named : IsInstr (length s.component.arrays) (length s.component.locks) 64 instr

-- the next instruction of the operation f, if it has one, names what is there
abbrev pub IsSoundNext : State → Frame → Type 0
IsSoundNext s f = IfSome (instr_at s.component f.op f.place) (IsSound s f)

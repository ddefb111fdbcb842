-- How a move is taken back.
use Rattle.std.specs.Prelude.{◌≡◌, ◌<◌, ℕ, Bool, false, nat_lt, Option, IfSome, length, slice_get}
use Rattle.std.specs.Option.{option_map_or}
use Rattle.lu_machine.specs.declared.event.Event.{Event}
use Rattle.lu_machine.specs.declared.undo.Shared.{Shared}
use Rattle.lu_machine.specs.declared.undo.Shared.TheVariants.{Nothing, Cell, Owner}
use Rattle.lu_machine.specs.declared.undo.Undo.{Undo}
use Rattle.lu_component.specs.Component.{IsRegister}
use Rattle.lu_machine.specs.declared.thread.OperationBefore.{OperationBefore}
use Rattle.lu_machine.specs.declared.thread.Thread.{Thread}
use Rattle.lu_machine.specs.Changes.{before}
use Rattle.lu_machine.specs.Events.{IsEventInRange}
use Rattle.lu_machine.specs.Layout.{WasIn}
use Rattle.lu_machine.specs.States.{State, with_cell, with_owner, with_standing}

-- s with this value in its cell, or this owner of its lock
abbrev pub with_shared : State → Shared → State
with_shared s Nothing = s
with_shared s (Cell p n) = with_cell s p n
with_shared s (Owner l owner) = with_owner s l owner

-- whether local instructions run with moves
abbrev pub has_local : State → Bool
has_local s = nat_lt 0 s.component.local

-- s with thread t put back so, where there is such a thread
abbrev pub with_thread_back : State → ℕ → (Thread → Thread) → State
with_thread_back s t back =
    option_map_or (λ thread. with_standing s t (back thread)) (slice_get s.threads t) s

-- s with thread t standing as before a move with this event or none
abbrev pub with_thread_before : State → ℕ → Option Event → OperationBefore → State
with_thread_before s t event was = with_thread_back s t (before (has_local s) event was)

-- The state before the move, from the state after it. Of an operation that went on all is put back
-- where local instructions run with moves, and else its place and one register.
abbrev pub restored : Undo → State → State
restored undo s =
    with_thread_back (with_shared s undo.overwritten) undo.thread
    (before (has_local s) undo.event undo.was)

-- s has the cell or the lock
abbrev pub IsThere : State → Shared → Type 0
IsThere s Nothing = Unit {0}
IsThere s (Cell p n) = p < length s.cells
IsThere s (Owner l owner) = l < length s.component.locks

-- s has all that the undo puts back: the thread, and the cell or the lock
pub record CanTake (s : State) (undo : Undo) : Type 0 where
  pub thread : undo.thread < length s.threads
  pub register : IsRegister undo.was.register
  pub code : WasIn s.component undo.was
  pub event : IfSome undo.event IsEventInRange
  pub overwritten : IsThere s undo.overwritten

-- The undo leads from `new` back to s. With `whole` false it has one register of an operation that
-- went on, which is enough where no local instructions run with moves.
abbrev pub LeadsBack : Bool → State → Undo → State → Type 0
LeadsBack whole s undo new = (whole ≡ false → s.component.local ≡ 0) → restored undo new ≡ s

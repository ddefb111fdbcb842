-- Arrays that a lock guards: each access to them is made in a critical section of the lock.
use Rattle.std.specs.Prelude.{◌≡◌, ◌↔◌, ℕ, ◌<◌, ◌==◌, ◌&&◌, ◌||◌, not, Bool, true, false, List, length, Option, None, Some, get_or, slice_get}
use Rattle.lu_component.specs.Component.{Component}
use Rattle.lu_component.specs.declared.instr.Instr.{Instr}
use Rattle.lu_component.specs.declared.instr.Instr.TheVariants.{Load, Store, Cas, Lock, Unlock, Await, AwaitNot}
use Rattle.lu_test.specs.declared.schedule.Move.{Move}
use Rattle.lu_test.specs.Matrix.{Matrix}
use Rattle.lu_machine.specs.declared.event.Event.{Event}
use Rattle.lu_machine.specs.declared.thread.Activity.TheVariants.{Open}
use Rattle.lu_machine.specs.declared.thread.Frame.{Frame}
use Rattle.lu_machine.specs.Runs.{Leads}
use Rattle.lu_machine.specs.Starts.{IsStart}
use Rattle.lu_machine.specs.States.{State, current_instr, instr_at, owner_of}
use Rattle.lu_horizon.specs.Dead.{GoesTo}

-- the array that an instruction accesses, if any
abbrev pub array_of : Instr → Option ℕ
array_of (Load to w i) = Some w
array_of (Store w i v) = Some w
array_of (Cas to w i expected desired) = Some w
array_of (Await w i v) = Some w
array_of (AwaitNot w i v) = Some w
array_of _ = None

-- whether an operation is in a critical section of lock l after the instruction, where it was in
-- one before, or was not
abbrev pub is_inside_after : ℕ → Instr → Bool → Bool
is_inside_after l (Lock m) inside = m == l || inside
is_inside_after l (Unlock m) inside = not (m == l) && inside
is_inside_after l _ inside = inside

-- These places in the code of operations are in critical sections of lock l: no operation begins in
-- one, and whichever way it comes to one, it is in one after the instruction before.
pub record AreCritical (c : Component) (l : ℕ) (inside : ℕ → ℕ → Bool) : Type 0 where
  pub begin : (op : ℕ) → inside op 0 ≡ false
  pub entered : (op place next : ℕ) (instr : Instr) → instr_at c op place ≡ Some instr
      → GoesTo place instr next → inside op next ≡ true
      → is_inside_after l instr (inside op place) ≡ true

-- array w is accessed in critical sections of lock l alone
abbrev pub IsGuardedBy : Component → ℕ → ℕ → Type 0
IsGuardedBy c w l =
    (inside : ℕ → ℕ → Bool) × AreCritical c l inside
    × ((op place : ℕ) (instr : Instr) → instr_at c op place ≡ Some instr
    → array_of instr ≡ Some w → inside op place ≡ true)

-- array w of the component is guarded by one of its locks
abbrev pub IsGuarded : Component → ℕ → Type 0
IsGuarded c w =
    (w < length c.arrays) × (l : ℕ) × (l < length c.locks) × IsGuardedBy c w l

-- the list says of each array whether it is guarded
abbrev pub TellsGuarded : Component → List Bool → Type 0
TellsGuarded c guarded = (w : ℕ) → get_or guarded w false ≡ true ↔ IsGuarded c w

-- From each start, wherever a schedule leads, a thread at an access to an array that a lock guards
-- owns that lock.
abbrev pub GuardedIsOwned : Type 0
GuardedIsOwned =
    (c : Component) (matrix : Matrix) (s : State) → IsStart c matrix s
    → (u : List Move) (end : State) (history : List Event) → Leads s u end history
    → (w l : ℕ) → l < length c.locks → IsGuardedBy c w l
    → (t done : ℕ) (f : Frame) (instr : Instr)
    → slice_get end.threads t ≡ Some (record { done = done; activity = Open f })
    → current_instr end f ≡ Some instr → array_of instr ≡ Some w → owner_of end l ≡ Some t

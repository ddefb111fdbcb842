-- What the next moves of threads access of what all of them share, and where two accesses conflict:
-- moves of different threads are independent where they don't.
use Rattle.std.specs.Prelude.{◌≡◌, ◌≢◌, ℕ, ◌<◌, ◌==◌, ◌&&◌, ◌||◌, Bool, true, false, if◌then◌else◌, Option, Some, None, length, slice_get, option_and_then}
use Rattle.std.specs.Option.{option_map}
use Rattle.lu_component.specs.Component.{Component}
use Rattle.lu_component.specs.declared.instr.Instr.{Instr}
use Rattle.lu_component.specs.declared.instr.Operand.{Operand}
use Rattle.lu_component.specs.declared.instr.Instr.TheVariants.{Load, Store, Cas, Lock, Unlock, Await, AwaitNot}
use Rattle.lu_machine.specs.declared.thread.Activity.{Activity}
use Rattle.lu_machine.specs.declared.thread.Activity.TheVariants.{Idle, Open}
use Rattle.lu_machine.specs.declared.thread.Frame.{Frame}
use Rattle.lu_machine.specs.Effects.{value_of}
use Rattle.lu_machine.specs.States.{State, cell_of, instr_at, owner_of, value_at}
use Rattle.lu_tree.specs.declared.access.Access.{Access}
use Rattle.lu_tree.specs.declared.access.Held.{Held}
use Rattle.lu_tree.specs.declared.access.Held.TheVariants.{Value, Owner}
use Rattle.lu_tree.specs.declared.access.Left.{Left}
use Rattle.lu_tree.specs.declared.access.Location.{Location}
use Rattle.lu_tree.specs.declared.access.Location.TheVariants as location

-- an access of the cell at p, which may change it or only reads it; and one of lock l
abbrev pub of_cell : Bool → ℕ → Access
of_cell writes p = record { location = location.Cell p; writes = writes }

abbrev pub of_lock : ℕ → Access
of_lock l = record { location = location.Lock l; writes = true }

-- the access of cell i of array w by an operation f: nothing where the array has no such cell
abbrev pub cell_access : Bool → Component → Frame → ℕ → Operand → Option Access
cell_access writes c f w i = option_map (of_cell writes) (cell_of c w (value_of f i))

-- what an instruction of the operation f accesses
abbrev pub instr_access : Component → Frame → Instr → Option Access
instr_access c f (Load to w i) = cell_access false c f w i
instr_access c f (Store w i v) = cell_access true c f w i
instr_access c f (Cas to w i old new) = cell_access true c f w i
instr_access c f (Await w i v) = cell_access false c f w i
instr_access c f (AwaitNot w i v) = cell_access false c f w i
instr_access c f (Lock l) = Some (of_lock l)
instr_access c f (Unlock l) = Some (of_lock l)
instr_access c f _ = None

abbrev pub activity_access : Component → Activity → Option Access
activity_access c Idle = None
activity_access c (Open f) = option_and_then (instr_access c f) (instr_at c f.op f.place)

-- what the next move of thread t accesses, if anything
abbrev pub next_access : State → ℕ → Option Access
next_access s t =
    option_and_then (λ thread. activity_access s.component thread.activity)
    (slice_get s.threads t)

-- two locations are one
abbrev pub are_one : Location → Location → Bool
are_one (location.Cell p) (location.Cell q) = p == q
are_one (location.Cell p) (location.Lock l) = false
are_one (location.Lock l) (location.Cell p) = false
are_one (location.Lock l) (location.Lock m) = l == m

-- the location that both access, where one of them may change it
abbrev pub conflict : Option Access → Option Access → Option Location
conflict None other = None
conflict (Some a) None = None
conflict (Some a) (Some b) =
    if are_one a.location b.location && (a.writes || b.writes) then Some a.location else None

-- the location where the next moves of two threads conflict
abbrev pub conflict_of : State → ℕ → ℕ → Option Location
conflict_of s t u = conflict (next_access s t) (next_access s u)

-- the next moves of two threads are independent
abbrev pub AreIndependent : ℕ → ℕ → State → Type 0
AreIndependent t u s = (t ≢ u) × (conflict_of s t u ≡ None)

-- s has the location
abbrev pub HasLocation : State → Location → Type 0
HasLocation s (location.Cell p) = p < length s.cells
HasLocation s (location.Lock l) = l < length s.component.locks

-- what the location holds
abbrev pub held_at : State → Location → Held
held_at s (location.Cell p) = Value (value_at s p)
held_at s (location.Lock l) = Owner (owner_of s l)

-- where threads t and u stand, and what the location holds
abbrev pub left_at : State → ℕ → ℕ → Location → Left
left_at s t u l =
    record { first = slice_get s.threads t; second = slice_get s.threads u; held = held_at s l }

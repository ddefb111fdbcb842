-- How the list of nodes that are kept grows.
use Rattle.std.specs.Prelude.{◌≡◌, ◌↔◌, ℕ, ◌<◌, ◌≤◌, List, [], ◌++◌, All, Bool, IfSome, Option, Some, None, slice_get}
use Rattle.std.specs.Global.{Vec}
use Rattle.lu_component.specs.Component.{Component}
use Rattle.lu_test.specs.declared.schedule.Move.{Move}
use Rattle.lu_test.specs.Matrix.{Matrix}
use Rattle.lu_machine.specs.declared.event.Event.{Event}
use Rattle.lu_machine.specs.Events.{IsEventInRange}
use Rattle.lu_machine.specs.Positions.{CanStand}
use Rattle.lu_machine.specs.States.{State}
use Rattle.lu_machine.specs.Steps.{IsFeasible, Step}
use Rattle.lu_history.specs.declared.serial.SerialOp.{SerialOp}
use Rattle.lu_graph.specs.Alive.{ArePossible}
use Rattle.lu_graph.specs.First.{GoesFirst}
use Rattle.lu_graph.specs.Judging.{Follows}
use Rattle.lu_graph.specs.Kept.{Kept}
use Rattle.lu_graph.specs.Nodes.{AreStatesAlike}

-- the state for which it stands, of a run of the component and the matrix
abbrev pub state_of : Component → Matrix → Kept → State
state_of c matrix kept = record {
  component = c;
  matrix = matrix;
  cells = kept.cells;
  locks = kept.locks;
  threads = kept.threads;
}

-- a machine of the component and the matrix can stand there
abbrev pub CanStandThere : Component → Matrix → Kept → Type 0
CanStandThere c matrix kept = CanStand c matrix kept.cells kept.locks kept.threads

-- it stands for the state s, to which this event led, or none, where these members were possible
pub record ComesBy (c : Component) (matrix : Matrix) (members : List (Vec SerialOp)) (s : State)
    (alive : List Bool) (event : Option Event) (kept : Kept) : Type 0 where
  pub state : AreStatesAlike s (state_of c matrix kept)
  pub follows : Follows members s alive event kept.alive

-- one of the list is such
abbrev pub Keeps : (Kept → Type 0) → List Kept → Type 0
Keeps Such list = (i : ℕ) × (kept : Kept) × (slice_get list i ≡ Some kept) × Such kept

-- new is old, and after it only such, and a machine can stand there
abbrev pub GrowsBy : Component → Matrix → (Kept → Type 0) → List Kept → List Kept → Type 0
GrowsBy c matrix Such old new =
    (more : List Kept) × (new ≡ old ++ more)
    × All (λ kept. CanStandThere c matrix kept × Such kept) more

-- one such is there, and no other is added
pub record AddsOne (c : Component) (matrix : Matrix) (Such : Kept → Type 0)
    (old new : List Kept) : Type 0 where
  pub there : Keeps Such new
  pub grows : GrowsBy c matrix Such old new

-- so it is of the node of s, to which this event led, or none
abbrev pub AddsHere : List (Vec SerialOp) → State → List Bool → Option Event → List Kept
    → List Kept → Type 0
AddsHere members s alive event old new =
    AddsOne s.component s.matrix (ComesBy s.component s.matrix members s alive event) old new

-- it stands for the state next, to which a move of s leads with this event, or none
pub record IsNextBy (members : List (Vec SerialOp)) (s : State) (alive : List Bool) (next : State)
    (event : Option Event) (kept : Kept) : Type 0 where
  pub range : IfSome event IsEventInRange
  pub comes : ComesBy s.component s.matrix members next alive event kept

-- a move of s that goes first leads to it
abbrev pub IsNext : List (Vec SerialOp) → State → List Bool → Kept → Type 0
IsNext members s alive kept =
    (m : Move) × (next : State) × (event : Option Event) × GoesFirst s m × Step s m next event
    × IsNextBy members s alive next event kept

-- all nodes to which moves of s lead that go first are there, and no others are added
pub record AddsNext (members : List (Vec SerialOp)) (s : State) (alive : List Bool)
    (old new : List Kept) : Type 0 where
  pub there : (m : Move) (next : State) (event : Option Event) → GoesFirst s m
      → Step s m next event → Keeps (IsNextBy members s alive next event) new
  pub grows : GrowsBy s.component s.matrix (IsNext members s alive) old new

-- of the moves of s just those of the threads from `first` to before `end` go first
abbrev pub TakeTurns : State → ℕ → ℕ → Type 0
TakeTurns s first end =
    (m : Move) → IsFeasible s m → GoesFirst s m ↔ ((first ≤ m.thread) × (m.thread < end))

-- the list has the node of s, before any event, and no other
abbrev pub HasStart : List (Vec SerialOp) → State → List Kept → Type 0
HasStart members s list =
    (alive : List Bool) × ArePossible members [] alive × AddsHere members s alive None [] list

-- The nodes that were found.
use Rattle.std.specs.Prelude.{◌≡◌, ℕ, Bool, List, [], ◌∷◌, length, IfOk, Option, Result, Some, slice_get}
use Rattle.std.specs.Global.{Vec}
use Rattle.lu_component.specs.Component.{Component}
use Rattle.lu_machine.specs.declared.event.Event.{Event}
use Rattle.lu_machine.specs.Starts.{FromEachStart}
use Rattle.lu_machine.specs.States.{State}
use Rattle.lu_history.specs.declared.serial.SerialOp.{SerialOp}
use Rattle.lu_graph.specs.declared.ending.Ending.{Ending}
use Rattle.lu_graph.specs.declared.holding.Nodes.{Nodes}
use Rattle.lu_graph.specs.declared.row.Row.{Row}
use Rattle.lu_graph.specs.Growing.{AddsHere, AddsNext, AddsOne, CanStandThere, HasStart, state_of}
use Rattle.lu_graph.specs.Judging.{IsOneOf}
use Rattle.lu_graph.specs.Kept.{Kept}
use Rattle.lu_graph.specs.Nodes.{AreStatesAlike, IsEnding, TellsFewNodes}
use Rattle.lu_graph.specs.Visiting.{AreVisitedFrom}
use Rattle.lu_graph.specs.Possibilities.{AreLeft, IsNumberOf}
use Rattle.lu_graph.specs.Rows.{Grow, IsRowOf, KnowsDead}

-- The nodes are those of the list, each with its row. What is remembered of returns is so, for
-- these members.
pub record Hold (members : List (Vec SerialOp)) (nodes : Nodes) (list : List Kept) : Type 0 where
  pub many : length nodes.rows.keys ≡ length list
  pub rows : (i : ℕ) (row : Row) (kept : Kept) → slice_get nodes.rows.keys i ≡ Some row
      → slice_get list i ≡ Some kept → IsRowOf nodes.parts kept row
  pub left : AreLeft members nodes.parts.alive

abbrev pub HoldsNone : Nodes → Type 0
HoldsNone nodes = (nodes.rows.keys ≡ []) × (nodes.parts.alive.returns.entries ≡ [])

-- it stands for the state s, where these members are possible
abbrev pub StandsFor : State → List Bool → Kept → Type 0
StandsFor s alive kept =
    AreStatesAlike s (state_of s.component s.matrix kept) × (kept.alive ≡ alive)

-- the node of s, where these members are possible, and no other
abbrev pub HoldsOne : State → List Bool → Nodes → Type 0
HoldsOne s alive nodes =
    (kept : Kept) × ((members : List (Vec SerialOp)) → Hold members nodes (kept ∷ []))
    × CanStandThere s.component s.matrix kept × StandsFor s alive kept
    × KnowsDead s.component nodes.parts.dead

-- it is the number of these members, as the nodes know them
abbrev pub Knows : Nodes → List Bool → ℕ → Type 0
Knows nodes alive number = IsNumberOf nodes.parts.alive alive number

-- the nodes are those of a list that has grown so, and more parts may be known
pub record HoldMore (members : List (Vec SerialOp)) (Grown : List Kept → Type 0) (old new : Nodes)
    : Type 0 where
  pub list : List Kept
  pub hold : Hold members new list
  pub grown : Grown list
  pub parts : Grow old.parts new.parts

-- so it is where the nodes were those of an old list, what was possible had this number, and the
-- dead registers of the component were known
abbrev pub HoldsMore : Component → List (Vec SerialOp)
    → (List Bool → List Kept → List Kept → Type 0) → ℕ → Nodes → Nodes → Type 0
HoldsMore c members Grows number old new =
    (list : List Kept) (alive : List Bool)
    → Hold members old list → Knows old alive number → KnowsDead c old.parts.dead
    → HoldMore members (Grows alive list) old new

-- with the node of s, where what has the number in the row is possible
abbrev pub HoldsOneMore : State → Row → Nodes → Nodes → Type 0
HoldsOneMore s row old new =
    (members : List (Vec SerialOp))
    → HoldsMore s.component members
    (λ alive. AddsOne s.component s.matrix (StandsFor s alive)) row.alive old new

-- with the node of s, to which this event led from the node of the row, or none
abbrev pub HoldsHere : List (Vec SerialOp) → State → Row → Option Event → Nodes → Nodes → Type 0
HoldsHere members s from event old new =
    HoldsMore s.component members (λ alive. AddsHere members s alive event) from.alive old new

-- with all nodes to which moves of s lead that go first, the state of the node of the row
abbrev pub HoldsNext : List (Vec SerialOp) → State → Row → Nodes → Nodes → Type 0
HoldsNext members s from old new =
    HoldsMore s.component members (AddsNext members s) from.alive old new

-- the nodes are the start alone
abbrev pub HoldsStart : List (Vec SerialOp) → State → Nodes → Type 0
HoldsStart members s nodes =
    (list : List Kept) × Hold members nodes list × HasStart members s list
    × KnowsDead s.component nodes.parts.dead

-- the nodes are those of a list, of which those before this number were gone through, in runs of
-- the component and the matrix of s
abbrev pub AreVisitedBy : List (Vec SerialOp) → State → Nodes → ℕ → Type 0
AreVisitedBy members s nodes number =
    (list : List Kept) × Hold members nodes list
    × AreVisitedFrom members s.component s.matrix list number
    × KnowsDead s.component nodes.parts.dead

-- ---- what is said of all nodes

-- from each start of the component and the matrix of s it is said whether there are so few
abbrev pub AreFewAsSaid : {E : Type 0} → List (Vec SerialOp) → ℕ → State → Result Bool E → Type 0
AreFewAsSaid members most s result =
    FromEachStart s.component s.matrix (TellsFewNodes (IsOneOf members) most result)

-- and how all schedules end, searched up to a bound and with this many nodes at most
abbrev pub EndsSo : {E : Type 0} → List (Vec SerialOp) → ℕ → ℕ → State → Result Ending E → Type 0
EndsSo members bound most s result =
    FromEachStart s.component s.matrix
    (λ r. IfOk result (IsEnding (IsOneOf members) bound most r))

-- What is found of nodes before they are gone through.
use Rattle.std.specs.Prelude.{◌≡◌, ◌⊎◌, ℕ, ◌+◌, ◌<◌, ◌≤◌, Bool, List, [], ◌∷◌, ◌++◌, All, Option, Some, None, drop, length, slice_get, take, IsTrue}
use Rattle.std.specs.Global.{Vec}
use Rattle.lu_component.specs.Component.{Component}
use Rattle.lu_test.specs.declared.schedule.Move.{Move}
use Rattle.lu_test.specs.Matrix.{Matrix}
use Rattle.lu_machine.specs.declared.event.Event.{Event}
use Rattle.lu_machine.specs.Starts.{CanRun}
use Rattle.lu_machine.specs.States.{State}
use Rattle.lu_machine.specs.Steps.{Step}
use Rattle.lu_history.specs.declared.serial.SerialOp.{SerialOp}
use Rattle.lu_graph.specs.declared.expanding.Expansion.{Expansion}
use Rattle.lu_graph.specs.declared.expanding.Expansions.{Expansions}
use Rattle.lu_graph.specs.declared.expanding.Frontier.{Frontier}
use Rattle.lu_graph.specs.declared.expanding.Found.{Found}
use Rattle.lu_graph.specs.declared.expanding.Found.TheVariants.{Known, New, Unsure}
use Rattle.lu_graph.specs.declared.holding.Nodes.{Nodes}
use Rattle.lu_graph.specs.declared.row.Parts.{Parts}
use Rattle.lu_graph.specs.declared.row.Row.{Row}
use Rattle.lu_graph.specs.First.{GoesFirst}
use Rattle.lu_graph.specs.Growing.{AddsNext, CanStandThere, ComesBy, GrowsBy, IsNext, IsNextBy, Keeps, state_of}
use Rattle.lu_graph.specs.Guards.{TellsGuarded}
use Rattle.lu_graph.specs.Holding.{Hold, HoldMore, Knows}
use Rattle.lu_graph.specs.Judging.{JudgesGood}
use Rattle.lu_graph.specs.Kept.{Kept}
use Rattle.lu_graph.specs.Nodes.{IsAmong}
use Rattle.lu_graph.specs.Rows.{CanStandAtRow, IsRowOf, KnowsDead}

-- the row of such a node, by the parts that are known
abbrev pub IsRowOfSuch : (Kept → Type 0) → Parts → Row → Type 0
IsRowOfSuch Such parts row = (kept : Kept) × IsRowOf parts kept row × Such kept

-- to the node leads a move of s that goes first, where these members are possible in s, and a
-- machine can stand there
abbrev pub IsNextThere : List (Vec SerialOp) → State → List Bool → Kept → Type 0
IsNextThere members s alive kept =
    CanStandThere s.component s.matrix kept × IsNext members s alive kept

-- These are rows of nodes to which moves of s lead that go first; and they and the list have all
-- such nodes.
pub record AreNext (members : List (Vec SerialOp)) (s : State) (alive : List Bool) (parts : Parts)
    (list : List Kept) (rows : List Row) : Type 0 where
  pub such : All (IsRowOfSuch (IsNextThere members s alive) parts) rows
  pub there : (m : Move) (made : State) (event : Option Event) → GoesFirst s m → Step s m made event
      → Keeps (IsNextBy members s alive made event) list
      ⊎ ((row : Row) × IsAmong rows row
      × IsRowOfSuch (IsNextBy members s alive made event) parts row)

-- so they are, and it is said whether the node of s is good
pub record IsExpansion (members : List (Vec SerialOp)) (s : State) (alive : List Bool)
    (parts : Parts) (list : List Kept) (good : Bool) (rows : List Row) : Type 0 where
  pub good_is : JudgesGood members s alive good
  pub next : AreNext members s alive parts list rows

-- so it is of the node of its number in the list
pub record IsExpandedIn (members : List (Vec SerialOp)) (c : Component) (matrix : Matrix)
    (parts : Parts) (list : List Kept) (e : Expansion) (rows : List Row) : Type 0 where
  pub kept : Kept
  pub there : slice_get list e.number ≡ Some kept
  pub is : IsExpansion members (state_of c matrix kept) kept.alive parts list e.is_good rows

-- so it is of each, with the first rows, as many as are its own, or all that are left
abbrev pub AreExpandedIn : List (Vec SerialOp) → Component → Matrix → Parts → List Kept
    → List Expansion → List Row → Type 0
AreExpandedIn members c matrix parts list [] rows = Unit {0}
AreExpandedIn members c matrix parts list (e ∷ es) rows =
    IsExpandedIn members c matrix parts list e (take e.count rows)
    × AreExpandedIn members c matrix parts list es (drop e.count rows)

-- how many rows are their own
abbrev pub count_all : List Expansion → ℕ
count_all [] = 0
count_all (e ∷ es) = e.count + count_all es

-- it was found of a node from this number on, before the end
abbrev pub IsBetween : ℕ → ℕ → Expansion → Type 0
IsBetween from end e = (from ≤ e.number) × (e.number < end)

-- ---- what is lent for that

-- a machine of the component and the matrix can stand at each of the nodes
abbrev pub AllCanStand : Component → Matrix → Nodes → Type 0
AllCanStand c matrix nodes = All (CanStandAtRow c matrix nodes.parts) nodes.rows.keys

pub record IsFrontier (frontier : Frontier) : Type 0 where
  pub runs : CanRun frontier.component.now frontier.matrix.now
  pub stand : AllCanStand frontier.component.now frontier.matrix.now frontier.nodes.now
  pub guards : TellsGuarded frontier.component.now frontier.guards.now

-- it was found of nodes of a list, wherever these are the nodes
pub record AreFound (c : Component) (matrix : Matrix) (members : List (Vec SerialOp))
    (nodes : Nodes) (found : Expansions) : Type 0 where
  pub each : (list : List Kept) → Hold members nodes list → KnowsDead c nodes.parts.dead
      → AreExpandedIn members c matrix nodes.parts list found.nodes.items found.rows.items

-- it was found of nodes from this number on, before the end, and all its rows are there
pub record AreFoundBetween (c : Component) (matrix : Matrix) (members : List (Vec SerialOp))
    (nodes : Nodes) (from end : ℕ) (found : Expansions) : Type 0 where
  pub are : AreFound c matrix members nodes found
  pub within : All (IsBetween from end) found.nodes.items
  pub many : length found.rows.items ≡ count_all found.nodes.items

-- it was found of what was lent
abbrev pub AreExpanded : Frontier → Expansions → Type 0
AreExpanded frontier found =
    AreFoundBetween frontier.component.now frontier.matrix.now frontier.members.now
    frontier.nodes.now frontier.visited frontier.end found

-- ---- one node

-- to s leads this event, or none, from where these members are possible: a node of the list is that
-- of s; or this is the row of a new one; or that is not known
abbrev pub Finds : List (Vec SerialOp) → State → List Bool → Option Event → Parts → List Kept
    → Found → Type 0
Finds members s alive event parts list Known =
    Keeps (ComesBy s.component s.matrix members s alive event) list
Finds members s alive event parts list (New row) =
    IsRowOfSuch (λ kept. CanStandThere s.component s.matrix kept
    × ComesBy s.component s.matrix members s alive event kept) parts row
Finds members s alive event parts list Unsure = Unit {0}

-- so it is wherever the nodes are those of a list, and what was possible has the number in the row
abbrev pub FindsAt : State → Row → Option Event → Nodes → Found → Type 0
FindsAt s from event nodes found =
    (members : List (Vec SerialOp)) (list : List Kept) (alive : List Bool)
    → Hold members nodes list → Knows nodes alive from.alive
    → KnowsDead s.component nodes.parts.dead → Finds members s alive event nodes.parts list found

-- and of all to which moves of s lead
abbrev pub AreNextOf : State → Row → Nodes → List Row → Type 0
AreNextOf s from nodes rows =
    (members : List (Vec SerialOp)) (list : List Kept) (alive : List Bool)
    → Hold members nodes list → Knows nodes alive from.alive
    → KnowsDead s.component nodes.parts.dead → AreNext members s alive nodes.parts list rows

-- so it is if that is sure
abbrev pub ListsNext : State → Row → Nodes → List Row → Bool → Type 0
ListsNext s from nodes rows sure = IsTrue sure → AreNextOf s from nodes rows

-- this was added of the node of this number
pub record HasMore (number : ℕ) (good : Bool) (next : List Row)
    (old new : Expansions) : Type 0 where
  pub nodes : new.nodes.items
      ≡ old.nodes.items ++ record { number = number; is_good = good; count = length next } ∷ []
  pub rows : new.rows.items ≡ old.rows.items ++ next

-- they were found of the nodes, in runs of the component and the matrix of m
abbrev pub WereFound : State → List (Vec SerialOp) → Nodes → Expansions → Type 0
WereFound m members nodes found = AreFound m.component m.matrix members nodes found

-- if the old ones were found of nodes from one number to another, then so were these, where this
-- number is one of them
abbrev pub FindsMore : State → List (Vec SerialOp) → Nodes → ℕ → Expansions → Expansions → Type 0
FindsMore m members nodes number old new =
    (from end : ℕ) → from ≤ number → number < end
    → AreFoundBetween m.component m.matrix members nodes from end old
    → AreFoundBetween m.component m.matrix members nodes from end new

-- the machine is one of the same component and matrix
pub record IsInSameRuns (old new : State) : Type 0 where
  pub component : new.component ≡ old.component
  pub matrix_is : new.matrix ≡ old.matrix

-- ---- putting in what was found

-- all to which moves of s lead are there, where these rows and the list have all, and no others are
-- added
abbrev pub PutsNext : List Row → Nodes → Nodes → Type 0
PutsNext rows old new =
    (members : List (Vec SerialOp)) (s : State) (list : List Kept) (alive : List Bool)
    → Hold members old list → AreNext members s alive old.parts list rows
    → HoldMore members (AddsNext members s alive list) old new

-- the first was taken out, which is of this number; or nothing
abbrev pub Takes : ℕ → List Expansion → List Expansion → Option Expansion → Type 0
Takes number old new None = new ≡ old
Takes number old new (Some first) = (first.number ≡ number) × (old ≡ first ∷ new)

-- a move that goes first leads to it from a node of the list, from this number on, before the end
abbrev pub IsNextBetween : List (Vec SerialOp) → Component → Matrix → List Kept → ℕ → ℕ → Kept
    → Type 0
IsNextBetween members c matrix list from end kept =
    (i : ℕ) × (before : Kept) × (from ≤ i) × (i < end) × (slice_get list i ≡ Some before)
    × IsNext members (state_of c matrix before) before.alive kept

-- the nodes are those of the list, with such after them, and no more parts are known
pub record AreAhead (members : List (Vec SerialOp)) (c : Component) (matrix : Matrix)
    (from end : ℕ) (list : List Kept) (old new : Nodes) : Type 0 where
  pub now : List Kept
  pub hold : Hold members new now
  pub grows : GrowsBy c matrix (IsNextBetween members c matrix list from end) list now
  pub parts : new.parts ≡ old.parts

-- so it is where the nodes were those of a list, and these were found of some of them; and those
-- ahead were found of the nodes as they are then
abbrev pub PutsAhead : Expansions → Expansions → Nodes → Nodes → Type 0
PutsAhead before ahead old new =
    (members : List (Vec SerialOp)) (c : Component) (matrix : Matrix) (from end : ℕ)
    (list : List Kept) → Hold members old list → KnowsDead c old.parts.dead
    → AreFoundBetween c matrix members old from end before
    → AreAhead members c matrix from end list old new × AreFound c matrix members new ahead

-- so it is in runs of the component and the matrix of m, where the nodes were those of a list
abbrev pub GoesAhead : List (Vec SerialOp) → State → ℕ → ℕ → Nodes → Nodes → Type 0
GoesAhead members m from end old new =
    (list : List Kept) → Hold members old list → KnowsDead m.component old.parts.dead
    → AreAhead members m.component m.matrix from end list old new

-- these were found of the nodes as they are now, where the old ones were those of a list
abbrev pub StayFound : State → List (Vec SerialOp) → Nodes → Nodes → Expansions → Type 0
StayFound m members old new found =
    (list : List Kept) → Hold members old list → KnowsDead m.component old.parts.dead
    → WereFound m members new found

-- ---- going through a node

-- it is said whether the node of s is good, and all to which its moves lead that go first are there
pub record IsGoneThrough (members : List (Vec SerialOp)) (s : State) (alive : List Bool)
    (list : List Kept) (old new : Nodes) (good : Bool) : Type 0 where
  pub good_is : JudgesGood members s alive good
  pub more : HoldMore members (AddsNext members s alive list) old new

-- so it is of the node of this number, in runs of the component and the matrix of m
abbrev pub Visits : List (Vec SerialOp) → State → ℕ → Row → Nodes → Nodes → Bool → Type 0
Visits members m number row old new good =
    (list : List Kept) (kept : Kept) → Hold members old list → slice_get list number ≡ Some kept
    → IsRowOf old.parts kept row → KnowsDead m.component old.parts.dead
    → IsGoneThrough members (state_of m.component m.matrix kept) kept.alive list old new good

-- ---- what several have found

-- where each was found of the nodes, so was all
abbrev pub Joins : Expansions → List Expansions → Expansions → Type 0
Joins first others all =
    (c : Component) (matrix : Matrix) (members : List (Vec SerialOp)) (nodes : Nodes) (from end : ℕ)
    → AreFoundBetween c matrix members nodes from end first
    → All (AreFoundBetween c matrix members nodes from end) others
    → AreFoundBetween c matrix members nodes from end all

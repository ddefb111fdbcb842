-- How states are discovered, breadth first.
use Rattle.std.specs.Prelude.{◌≡◌, ℕ, ◌+◌, ◌<◌, ◌⊎◌, List, [], ◌∷◌, ◌++◌, length, map, All, Option, Some, slice_get}
use Rattle.lu_test.specs.declared.schedule.Move.{Move}
use Rattle.lu_test.specs.Schedule.{IsMove}
use Rattle.lu_machine.specs.declared.event.Event.{Event}
use Rattle.lu_machine.specs.declared.position.Position.{Position}
use Rattle.lu_machine.specs.Order.{IsMoveBelow, IsSmaller}
use Rattle.lu_machine.specs.Positions.{CanStandAt, at_position}
use Rattle.lu_machine.specs.Runs.{Leads}
use Rattle.lu_machine.specs.Starts.{first_move}
use Rattle.lu_machine.specs.States.{State}
use Rattle.lu_machine.specs.Steps.{Step}
use Rattle.lu_graph.specs.declared.discovering.Discovered.{Discovered}
use Rattle.lu_graph.specs.declared.discovering.Discovery.{Discovery}
use Rattle.lu_graph.specs.declared.edge.Edge.{Edge}
use Rattle.lu_graph.specs.Nodes.{IsAmong}

-- ---- one state

-- the edge between the states of these numbers
abbrev pub edge : ℕ → ℕ → Edge
edge from to = record { from = from; to = to }

-- discovered from the state of this number, by this move
abbrev pub discovery : ℕ → Move → Discovery
discovery from made = record { from = from; made = made }

-- no state is added
abbrev pub AddsNone : Discovered → Discovered → Type 0
AddsNone old new =
    (new.positions.keys ≡ old.positions.keys) × (new.discoveries.items ≡ old.discoveries.items)

-- the state s is added after the others, as discovered so
abbrev pub AddsOne : State → Discovery → Discovered → Discovered → Type 0
AddsOne s way old new =
    (position : Position)
    × (new.positions.keys ≡ old.positions.keys ++ position ∷ [])
    × (new.discoveries.items ≡ old.discoveries.items ++ way ∷ [])
    × CanStandAt s.component s.matrix position
    × (at_position s position ≡ s)

-- the state s is there, added or not, and an edge leads to it from this one
pub record Discovers (s : State) (from : ℕ) (made : Move) (old new : Discovered) : Type 0 where
  pub to : ℕ
  pub position : Position
  pub there : slice_get new.positions.keys to ≡ Some position
  pub is : at_position s position ≡ s
  pub edges : new.edges.items ≡ old.edges.items ++ edge from to ∷ []
  pub adds : AddsNone old new ⊎ AddsOne s (discovery from made) old new

-- the state s alone, as the first
abbrev pub HasOnly : State → Discovered → Type 0
HasOnly s found =
    (position : Position)
    × (found.positions.keys ≡ position ∷ [])
    × (found.discoveries.items ≡ discovery 0 first_move ∷ [])
    × (found.edges.items ≡ [])
    × CanStandAt s.component s.matrix position
    × (at_position s position ≡ s)

-- ---- all that were discovered

-- the order of the search: a shorter schedule comes first, and of two of one length the smaller
abbrev pub IsEarlier : List Move → List Move → Type 0
IsEarlier u v = (length u < length v) ⊎ ((length u ≡ length v) × IsSmaller u v)

abbrev pub IsNoLater : List Move → List Move → Type 0
IsNoLater u v = (u ≡ v) ⊎ IsEarlier u v

-- where a state stands, how it was discovered, and the schedule that leads there so
pub record Entry : Type 0 where
  pub position : Position
  pub way : Discovery
  pub path : List Move

-- the state of the entry, in runs that start in s
abbrev pub state_of : State → Entry → State
state_of s entry = at_position s entry.position

-- a machine can stand there, and its path leads there
pub record IsReachedSo (s : State) (entry : Entry) : Type 0 where
  pub stands : CanStandAt s.component s.matrix entry.position
  pub move : IsMove entry.way.made
  pub history : List Event
  pub leads : Leads s entry.path (state_of s entry) history

-- its path is that of an earlier entry, and the move by which it was discovered from there
abbrev pub HasParent : List Entry → ℕ → Entry → Type 0
HasParent entries i entry =
    (parent : Entry) × (entry.way.from < i)
    × (slice_get entries entry.way.from ≡ Some parent)
    × (entry.path ≡ parent.path ++ entry.way.made ∷ [])

-- An edge leads from state i to this state, whose path is no later than that of the
-- entry there with this move.
abbrev pub LeadsOn : State → List Entry → List Edge → ℕ → Entry → Move → State → Type 0
LeadsOn s entries edges i entry m next =
    (j : ℕ) × (other : Entry) × (slice_get entries j ≡ Some other)
    × (state_of s other ≡ next) × IsNoLater other.path (entry.path ++ m ∷ [])
    × IsAmong edges (edge i j)

-- a move leads along the edge
abbrev pub IsMoveAlong : State → List Entry → Edge → Type 0
IsMoveAlong s entries e =
    (before : Entry) × (after : Entry) × (m : Move) × (event : Option Event)
    × (slice_get entries e.from ≡ Some before) × (slice_get entries e.to ≡ Some after)
    × Step (state_of s before) m (state_of s after) event

-- state i is before this one, or it is this one and the move is below the limit
abbrev pub IsPast : ℕ → Move → ℕ → Move → Type 0
IsPast i m number limit = (i < number) ⊎ ((i ≡ number) × IsMoveBelow m limit)

-- What was discovered from s, once the moves of the states before this one were gone through, and
-- of this one those below the limit: the entries in order, each discovered by the
-- first of all schedules to it.
pub record IsSearched (s : State) (found : Discovered) (number : ℕ) (limit : Move) : Type 0 where
  pub entries : List Entry
  pub positions : found.positions.keys ≡ map (λ entry. entry.position) entries
  pub discoveries : found.discoveries.items ≡ map (λ entry. entry.way) entries
  pub start : (entry : Entry) × (slice_get entries 0 ≡ Some entry) × (state_of s entry ≡ s)
      × (entry.path ≡ [])
  pub reached : All (IsReachedSo s) entries
  pub rising : (i j : ℕ) (before after : Entry) → i < j → slice_get entries i ≡ Some before
      → slice_get entries j ≡ Some after → IsEarlier before.path after.path
  pub parents : (i : ℕ) (entry : Entry) → 0 < i → slice_get entries i ≡ Some entry
      → HasParent entries i entry
  pub closed : (i : ℕ) (entry : Entry) (m : Move) (next : State) (event : Option Event)
      → IsPast i m number limit → slice_get entries i ≡ Some entry
      → Step (state_of s entry) m next event
      → LeadsOn s entries found.edges.items i entry m next
  pub along : All (IsMoveAlong s entries) found.edges.items
  pub frontier : (i : ℕ) (entry here : Entry) → slice_get entries i ≡ Some entry
      → slice_get entries number ≡ Some here → IsEarlier entry.path (here.path ++ limit ∷ [])

-- the new list is the old one, and more after it
abbrev pub Extends : {A : Type 0} → List A → List A → Type 0
Extends {A} old new = (more : List A) × (new ≡ old ++ more)

-- The state now has this number. With its moves the search from any start has come to the next
-- state.
abbrev pub SearchesNext : State → ℕ → Discovered → Discovered → Type 0
SearchesNext now number old new =
    (s : State) (position : Position)
    → slice_get old.positions.keys number ≡ Some position → at_position s position ≡ now
    → IsSearched s old number first_move → IsSearched s new (number + 1) first_move

-- Marks that are set along edges, from where they lead back.
use Rattle.std.specs.Prelude.{◌≡◌, ◌↔◌, ℕ, ◌<◌, Bool, true, false, List, [], ◌∷◌, Some, slice_get, slice_set, MatchBool}
use Rattle.lu_graph.specs.declared.edge.Edge.{Edge}
use Rattle.lu_graph.specs.Discovering.{edge}
use Rattle.lu_graph.specs.Nodes.{IsAmong}

abbrev pub IsMarked : List Bool → ℕ → Type 0
IsMarked marks i = slice_get marks i ≡ Some true

-- edges lead from state i along this way to a state that is marked
abbrev pub LeadsToMark : List Edge → List Bool → ℕ → List ℕ → Type 0
LeadsToMark edges marks i [] = IsMarked marks i
LeadsToMark edges marks i (j ∷ way) = IsAmong edges (edge i j) × LeadsToMark edges marks j way

-- a state is marked then exactly where edges lead from it to one that was marked
abbrev pub AreMarkedBack : List Edge → List Bool → List Bool → Type 0
AreMarkedBack edges old new =
    (i : ℕ) → IsMarked new i ↔ ((way : List ℕ) × LeadsToMark edges old i way)

-- both ends are numbers below this one
abbrev pub IsWithin : ℕ → Edge → Type 0
IsWithin count e = (e.from < count) × (e.to < count)

-- the state where the edge begins is marked now, and was not, and the one where it ends was
abbrev pub MarksFrom : Edge → List Bool → List Bool → Type 0
MarksFrom e old new =
    (new ≡ slice_set old e.from true) × IsMarked old e.to × (slice_get old e.from ≡ Some false)

-- nothing is changed: there is nothing to mark along this edge
abbrev pub MarksNone : Edge → List Bool → List Bool → Type 0
MarksNone e old new = (new ≡ old) × (IsMarked old e.to → IsMarked old e.from)

-- and it is said whether anything is changed
abbrev pub MarksAlong : Edge → List Bool → List Bool → Bool → Type 0
MarksAlong e old new changed = MatchBool changed (MarksFrom e old new) (MarksNone e old new)

-- no edge leads from a state that is not marked to one that is
abbrev pub AreStable : List Edge → List Bool → Type 0
AreStable edges marks = (e : Edge) → IsAmong edges e → IsMarked marks e.to → IsMarked marks e.from

-- marks stay, and each new one is where edges lead from to one that was
pub record MarksOn (edges : List Edge) (old new : List Bool) : Type 0 where
  pub stay : (i : ℕ) → IsMarked old i → IsMarked new i
  pub lead : (i : ℕ) → IsMarked new i → (way : List ℕ) × LeadsToMark edges old i way

-- nothing is changed, and there is nothing to mark
abbrev pub AreSettled : List Edge → List Bool → List Bool → Type 0
AreSettled edges old new = (new ≡ old) × AreStable edges new

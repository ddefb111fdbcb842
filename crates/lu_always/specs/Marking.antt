-- How the vertices are marked from which a path leads to a sink.
use Rattle.std.specs.Prelude.{◌≡◌, ◌↔◌, ◌⊎◌, ℕ, ◌+◌, ◌<◌, ◌≤◌, Bool, false, true, List, [], ◌∷◌, ◌++◌, length, Option, Some, None, slice_get, if◌then◌else◌}
use Rattle.std.specs.List.{sum_by}
use Rattle.lu_always.specs.declared.sinks.Marking.{Marking}
use Rattle.lu_client.specs.Stages.{IsIn}
use Rattle.lu_always.specs.Sinks.{Graph, HasEdge, IsSink, ReachesSink}

-- the vertex is marked
abbrev pub IsMarked : List Bool → ℕ → Type 0
IsMarked marks i = slice_get marks i ≡ Some true

-- the number of vertices that are not marked
abbrev pub unmarked : List Bool → ℕ
unmarked marks = sum_by (λ b. if b then 0 else 1) marks

-- The vertices of P are marked too. Those that were not marked before are added to the list of those
-- whose sources are still to be marked.
pub record Marks (P : ℕ → Type 0) (old new : Marking) : Type 0 where
  pub same : length new.marks.items ≡ length old.marks.items
  pub kept : (i : ℕ) → IsMarked old.marks.items i → IsMarked new.marks.items i
  pub marked : (i : ℕ) → P i → i < length old.marks.items → IsMarked new.marks.items i
  pub only : (i : ℕ) → IsMarked new.marks.items i → IsMarked old.marks.items i ⊎ P i
  pub stays : (i : ℕ) → IsIn old.todo.items i → IsIn new.todo.items i
  pub noted : (i : ℕ) → IsMarked new.marks.items i
      → IsMarked old.marks.items i ⊎ IsIn new.todo.items i
  pub right : (i : ℕ) → IsIn new.todo.items i
      → IsIn old.todo.items i ⊎ IsMarked new.marks.items i
  pub fewer : length new.todo.items + unmarked new.marks.items
      ≤ length old.todo.items + unmarked old.marks.items

-- this vertex is marked
abbrev pub MarksOne : ℕ → Marking → Marking → Type 0
MarksOne vertex = Marks (λ i. i ≡ vertex)

-- these vertices are marked
abbrev pub MarksAll : List ℕ → Marking → Marking → Type 0
MarksAll vertices = Marks (IsIn vertices)

-- this vertex is taken from the list of those whose sources are still to be marked, if there is one
abbrev pub Takes : Marking → Marking → Option ℕ → Type 0
Takes old new None = (old.todo.items ≡ []) × (new.marks ≡ old.marks)
Takes old new (Some vertex) =
    (old.todo.items ≡ new.todo.items ++ vertex ∷ []) × (new.marks ≡ old.marks)

-- The edges of P are added, where they lead from a vertex of the graph.
pub record Gains (P : ℕ → ℕ → Type 0) (old new : Graph) : Type 0 where
  pub same : length new ≡ length old
  pub kept : (i j : ℕ) → HasEdge old i j → HasEdge new i j
  pub added : (i j : ℕ) → P i j → i < length old → HasEdge new i j
  pub only : (i j : ℕ) → HasEdge new i j → HasEdge old i j ⊎ P i j

-- the edge between these vertices is added
abbrev pub AddsEdge : ℕ → ℕ → Graph → Graph → Type 0
AddsEdge from to = Gains (λ i j. (i ≡ from) × (j ≡ to))

-- an edge to this vertex is added from each of these
abbrev pub AddsEdges : List ℕ → ℕ → Graph → Graph → Type 0
AddsEdges from to = Gains (λ i j. IsIn from i × (j ≡ to))

-- a graph with this many vertices and no edges
abbrev pub IsBare : ℕ → Graph → Type 0
IsBare n graph = (length graph ≡ n) × ((i j : ℕ) → HasEdge graph i j → ⊥)

-- the same edges backwards: for each vertex, the vertices from which an edge leads to it
pub record AreSources (graph sources : Graph) : Type 0 where
  pub same : length sources ≡ length graph
  pub each : (i j : ℕ) → j < length graph → HasEdge graph i j → HasEdge sources j i
  pub only : (i j : ℕ) → HasEdge sources j i → HasEdge graph i j

-- these are the sinks
abbrev pub AreSinks : Graph → List ℕ → Type 0
AreSinks graph sinks = (i : ℕ) → IsIn sinks i ↔ IsSink graph i

-- this many vertices, none of them marked
abbrev pub IsUnmarked : ℕ → Marking → Type 0
IsUnmarked n marking =
    (length marking.marks.items ≡ n) × ((i : ℕ) → IsMarked marking.marks.items i → ⊥)
    × (marking.todo.items ≡ [])

-- those vertices are marked from which a path leads to a sink
pub record AreMarked (graph : Graph) (marks : List Bool) : Type 0 where
  pub same : length marks ≡ length graph
  pub each : (i : ℕ) → IsMarked marks i ↔ ReachesSink graph i

-- the first vertex that is not marked, if there is one
abbrev pub IsFirstUnmarked : List Bool → Option ℕ → Type 0
IsFirstUnmarked marks None = (i : ℕ) → i < length marks → IsMarked marks i
IsFirstUnmarked marks (Some i) =
    (slice_get marks i ≡ Some false) × ((j : ℕ) → j < i → IsMarked marks j)

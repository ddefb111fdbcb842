-- Directed graphs, and the vertices from which a path leads to a sink.
use Rattle.std.specs.Prelude.{◌≡◌, ℕ, ◌<◌, List, [], ◌∷◌, length, Option, Some, None, slice_get}
use Rattle.std.specs.Global.{Vec}
use Rattle.lu_client.specs.Stages.{IsIn}

-- for each vertex, the vertices to which its edges lead
abbrev pub Graph : Type 0
Graph = List (Vec ℕ)

-- an edge leads from vertex i to vertex j
abbrev pub HasEdge : Graph → ℕ → ℕ → Type 0
HasEdge graph i j = (to : Vec ℕ) × (slice_get graph i ≡ Some to) × IsIn to.items j

-- no edge leads from vertex i
abbrev pub IsSink : Graph → ℕ → Type 0
IsSink graph i = (to : Vec ℕ) × (slice_get graph i ≡ Some to) × (to.items ≡ [])

-- a path leads from vertex i through these vertices, the last of which is k
abbrev pub PathLeads : Graph → ℕ → List ℕ → ℕ → Type 0
PathLeads graph i [] k = k ≡ i
PathLeads graph i (j ∷ path) k = HasEdge graph i j × PathLeads graph j path k

-- some path leads from vertex i to a sink
abbrev pub ReachesSink : Graph → ℕ → Type 0
ReachesSink graph i = (path : List ℕ) × (k : ℕ) × PathLeads graph i path k × IsSink graph k

-- the first vertex from which no path leads to a sink, if there is one
abbrev pub IsFirstWithoutSink : Graph → Option ℕ → Type 0
IsFirstWithoutSink graph None = (i : ℕ) → i < length graph → ReachesSink graph i
IsFirstWithoutSink graph (Some i) =
    (i < length graph) × (ReachesSink graph i → ⊥)
    × ((j : ℕ) → j < i → ReachesSink graph j)

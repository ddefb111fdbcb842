-- The moves that lead to stored nodes.
use Rattle.std.specs.Prelude.{◌≡◌, ℕ, ◌<◌, List, [], ◌∷◌, ◌++◌, length, Option, Some, None}
use Rattle.std.specs.Global.{Vec}
use Rattle.std.specs.Option.{option_map_or}
use Rattle.lu_test.specs.declared.schedule.Move.{Move}
use Rattle.lu_always.specs.declared.stored.Arrival.{Arrival}
use Rattle.lu_always.specs.Stored.{StoredNode}
pub use Rattle.lu_always.specs.Stored.{arrival_at}
use Rattle.lu_always.specs.Sinks.{Graph, IsFirstWithoutSink}
use Rattle.lu_always.specs.Searching.{moves_of}

-- each node was reached from one before it
abbrev pub HasParentsBefore : List StoredNode → Type 0
HasParentsBefore list =
    (i : ℕ) (arrival : Arrival) → arrival_at list i ≡ Some arrival → arrival.parent < i

-- these arrivals, from the last to the first, lead back from the node at this index to the first node
abbrev pub AreBack : List StoredNode → ℕ → List Arrival → Type 0
AreBack list index [] = (index < length list) × (arrival_at list index ≡ None)
AreBack list index (a ∷ before) =
    (arrival_at list index ≡ Some a) × AreBack list a.parent before

-- the moves of these arrivals, from the first to the last
abbrev pub all_moves : List Arrival → List Move
all_moves [] = []
all_moves (a ∷ before) = all_moves before ++ moves_of a

-- these moves lead from the first node to the one at this index
abbrev pub IsWayTo : List StoredNode → ℕ → List Move → Type 0
IsWayTo list index u = (back : List Arrival) × AreBack list index back × (u ≡ all_moves back)

-- these moves lead to it, and end with the call, if there is one
abbrev pub IsWayWith : List StoredNode → ℕ → Option Move → List Move → Type 0
IsWayWith list index call u =
    (w : List Move) × IsWayTo list index w × (u ≡ w ++ option_map_or (λ m. m ∷ []) call [])

-- From each node a path of exits leads to one without exits; or these moves lead to the first node from
-- which none does.
abbrev pub IsWayToLivelock : List StoredNode → Graph → Option (Vec Move) → Type 0
IsWayToLivelock all exits None = IsFirstWithoutSink exits None
IsWayToLivelock all exits (Some moves) =
    (index : ℕ) × IsFirstWithoutSink exits (Some index) × IsWayTo all index moves.items

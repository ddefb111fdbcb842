-- Sets of histories in a flat list of nodes, each after its children.
use Rattle.std.specs.Prelude.{◌≡◌, ℕ, ◌+◌, ◌-◌, ◌^◌, ◌<◌, ◌≤◌, min, Bool, List, [], ◌∷◌, ◌++◌, length, map, take, drop, slice_index_or}
use Rattle.lu_history.specs.declared.serial.SerialOp.{SerialOp}
use Rattle.lu_serial_graph.specs.declared.graph.GraphNode.{GraphNode}
use Rattle.lu_trie.specs.Members.{AllSerial}
use Rattle.lu_trie.specs.Branches.{Branch, members_from, AreBranches, IsBranching}

-- a label, and the place of the node after it
abbrev pub Link : Type 0
Link = SerialOp × ℕ

-- the links of a node
abbrev pub links_of : List Link → GraphNode → List Link
links_of links node = take node.count (drop node.first links)

-- the branches of these links, where the table has the members below each place
abbrev pub resolve : List (List (List SerialOp)) → List Link → List Branch
resolve table links = map (λ link. (link.0, slice_index_or table link.1 [])) links

-- the members below this place are those of these links, as the table had them before
abbrev pub HoldsFrom : List (List (List SerialOp)) → Bool → List Link
    → List (List (List SerialOp)) → ℕ → Type 0
HoldsFrom old ends links new place =
    slice_index_or new place [] ≡ members_from ends (resolve old links)

-- each link leads to a place below n
abbrev pub AllBelow : ℕ → List Link → Type 0
AllBelow n [] = Unit {0}
AllBelow n (link ∷ links) = (link.1 < n) × AllBelow n links

-- the members below a node
abbrev pub members_at : List Link → List (List (List SerialOp)) → GraphNode → List (List SerialOp)
members_at links table node = members_from node.ends (resolve table (links_of links node))

-- the number of these histories, or the greatest number of 64 bits where there are more
abbrev pub count_of : List (List SerialOp) → ℕ
count_of histories = min (length histories) (2 ^ 64 - 1)

-- the table with the members below each further node
abbrev pub table_from : List Link → List (List (List SerialOp)) → List GraphNode
    → List (List (List SerialOp))
table_from links table [] = table
table_from links table (node ∷ nodes) =
    table_from links (table ++ members_at links table node ∷ []) nodes

-- the node's links are in the list, lead to earlier nodes, and make branches in order; and the node
-- has the number of members below it
pub record IsLinked (links : List Link) (table : List (List (List SerialOp)))
    (node : GraphNode) : Type 0 where
  pub in_range : node.first + node.count ≤ length links
  pub below : AllBelow (length table) (links_of links node)
  pub branches : AreBranches (resolve table (links_of links node))
  pub serial : AllSerial (members_at links table node)
  pub counted : node.member_count ≡ count_of (members_at links table node)

abbrev pub AreLinked : List Link → List (List (List SerialOp)) → List GraphNode → Type 0
AreLinked links table [] = Unit {0}
AreLinked links table (node ∷ nodes) =
    IsLinked links table node × AreLinked links (table ++ members_at links table node ∷ []) nodes

-- the set of a graph: the members below its root
abbrev pub members_of : (List (List (List SerialOp)) × ℕ) → List (List SerialOp)
members_of packed = slice_index_or packed.0 packed.1 []

-- the number of nodes of a graph
abbrev pub node_count_of : (List (List (List SerialOp)) × ℕ) → ℕ
node_count_of packed = length packed.0

-- there is a node at this place of the table
abbrev pub IsPlaceIn : List (List (List SerialOp)) → ℕ → Type 0
IsPlaceIn table place = (place < length table) × IsBranching (slice_index_or table place [])

-- Sets that are within another.
use Rattle.std.specs.Prelude.{◌≡◌, ◌↔◌, ◌⊎◌, ℕ, true, false, List, [], ◌∷◌, slice_index_or}
use Rattle.lu_history.specs.declared.serial.SerialOp.{SerialOp}
use Rattle.lu_trie.specs.Members.{contains}
use Rattle.lu_serial_graph.specs.Playing.{IsAmong}

-- each member of the one set is a member of the other
abbrev pub IsSubset : List (List SerialOp) → List (List SerialOp) → Type 0
IsSubset one other =
    (q : List SerialOp) → contains one q ≡ true → contains other q ≡ true

-- ---- a walk down two graphs

-- below the child is what follows the entry in the members below the place
abbrev pub IsChildWith : {P : Type 0} → (P → List (List SerialOp)) → SerialOp → P → P → Type 0
IsChildWith below op place child =
    (q : List SerialOp) → contains (below place) (op ∷ q) ≡ contains (below child) q

-- no member of the set begins with the entry
abbrev pub HasNoneAfter : SerialOp → List (List SerialOp) → Type 0
HasNoneAfter op set = (q : List SerialOp) → contains set (op ∷ q) ≡ false

-- a place of the one graph, and one of the other
abbrev pub Pair : Type 0
Pair = ℕ × ℕ

-- below the one place are only members that the other graph has below the other
abbrev pub IsWithin : List (List (List SerialOp)) → List (List (List SerialOp)) → Pair → Type 0
IsWithin one other pair =
    IsSubset (slice_index_or one pair.0 []) (slice_index_or other pair.1 [])

-- so it is for each of the pairs
abbrev pub AreWithin : List (List (List SerialOp)) → List (List (List SerialOp)) → List Pair → Type 0
AreWithin one other pairs = (pair : Pair) → IsAmong pair pairs → IsWithin one other pair

-- the new pairs are the old ones and this one
abbrev pub AddsPair : Pair → List Pair → List Pair → Type 0
AddsPair pair old new =
    (other : Pair) → IsAmong other new ↔ (IsAmong other old ⊎ (other ≡ pair))

-- Beginnings of serial histories, and sets that are closed under them.
use Rattle.std.specs.Prelude.{◌≡◌, ◌↔◌, ◌⊎◌, true, List, [], ◌++◌}
use Rattle.lu_history.specs.declared.serial.SerialOp.{SerialOp}
use Rattle.lu_history.specs.Serial.{IsSerial}
use Rattle.lu_trie.specs.Members.{contains}

-- the history is a member
abbrev pub Has : List (List SerialOp) → List SerialOp → Type 0
Has members q = contains members q ≡ true

-- the history h begins with q
abbrev pub Begins : List SerialOp → List SerialOp → Type 0
Begins q h = (rest : List SerialOp) × (h ≡ q ++ rest)

-- the two have the same members
abbrev pub HaveTheSame : List (List SerialOp) → List (List SerialOp) → Type 0
HaveTheSame members others = (q : List SerialOp) → contains members q ≡ contains others q

-- with each member its beginnings are members
abbrev pub IsClosed : List (List SerialOp) → Type 0
IsClosed members = (q h : List SerialOp) → Begins q h → Has members h → Has members q

-- all beginnings of the members, and the empty history
abbrev pub IsClosureOf : List (List SerialOp) → List (List SerialOp) → Type 0
IsClosureOf members closed =
    (q : List SerialOp)
    → Has closed q ↔ ((q ≡ []) ⊎ ((h : List SerialOp) × Begins q h × Has members h))

-- ---- a walk down a tree

-- q is the path, or goes on from it with a beginning of a history below
abbrev pub IsBelow : List SerialOp → List (List SerialOp) → List SerialOp → Type 0
IsBelow path below q =
    (q ≡ path)
    ⊎ ((begin : List SerialOp) × (h : List SerialOp) × (q ≡ path ++ begin) × Begins begin h
    × Has below h)

-- the path is serial with each history below it
abbrev pub AreSerialAfter : List SerialOp → List (List SerialOp) → Type 0
AreSerialAfter path below = (q : List SerialOp) → Has below q → IsSerial (path ++ q)

-- new is old, the path, and what goes on from it with the beginnings of the histories below
abbrev pub AddsBelow : List (List SerialOp) → List (List SerialOp) → List SerialOp
    → List (List SerialOp) → Type 0
AddsBelow old new path below = (q : List SerialOp) → Has new q ↔ (Has old q ⊎ IsBelow path below q)

-- new is old, and all beginnings of the history
abbrev pub AddsBeginnings : List (List SerialOp) → List (List SerialOp) → List SerialOp → Type 0
AddsBeginnings old new h = (q : List SerialOp) → Has new q ↔ (Has old q ⊎ Begins q h)

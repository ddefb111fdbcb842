-- The histories that a specification's text lists.
use Rattle.std.specs.Prelude.{◌≡◌, ◌≢◌, ◌↔◌, List, [], ◌∷◌, ◌++◌, length, Result, OnOk, String, string_bytes}
use Rattle.std.specs.List.{AllByRecursion, flat_map}
use Rattle.lu_history.specs.declared.serial.SerialOp.{SerialOp}
use Rattle.lu_trie.specs.Branches.{branches_of}
use Rattle.lu_spec.specs.Beginnings.{Has, Begins}
use Rattle.lu_spec.specs.SpecText.{ComesAfter, history_line, spec_text}

-- q is a member that is not empty and begins no other member
pub record IsMaximal (members : List (List SerialOp)) (q : List SerialOp) : Type 0 where
  pub member : Has members q
  pub some : q ≢ []
  pub maximal : (h : List SerialOp) → Begins q h → Has members h → h ≡ q

-- each history comes after those before it
abbrev pub Rises : List (List SerialOp) → Type 0
Rises [] = Unit {0}
Rises (p ∷ listed) = AllByRecursion (ComesAfter p) listed × Rises listed

-- the members that begin no other, in order
pub record IsListing (members listed : List (List SerialOp)) : Type 0 where
  pub are : (q : List SerialOp) → Has listed q ↔ IsMaximal members q
  pub rises : Rises listed

-- the text lists the members that begin no other
abbrev pub IsSpecText : {Z : Type 0} → List (List SerialOp) → String Z → Type 0
IsSpecText members text =
    (listed : List (List SerialOp)) × IsListing members listed
    × (string_bytes text ≡ spec_text listed)

-- ---- a walk down a tree

-- q goes on from the path with a history below, which begins no other
pub record IsEnd (path : List SerialOp) (below : List (List SerialOp))
    (q : List SerialOp) : Type 0 where
  pub rest : List SerialOp
  pub is : q ≡ path ++ rest
  pub some : q ≢ []
  pub member : Has below rest
  pub maximal : (g : List SerialOp) → Begins rest g → Has below g → g ≡ rest

-- those histories, in order
pub record AreEnds (path : List SerialOp) (below listed : List (List SerialOp)) : Type 0 where
  pub are : (q : List SerialOp) → Has listed q ↔ IsEnd path below q
  pub rises : Rises listed

-- where it succeeds the text grows by the lines of those histories
abbrev pub WritesEnds : {T E Z : Type 0} → Result T E → String Z → String Z → List SerialOp
    → List (List SerialOp) → Type 0
WritesEnds result old new path below =
    OnOk result ((listed : List (List SerialOp)) × AreEnds path below listed
    × (string_bytes new ≡ string_bytes old ++ flat_map history_line listed))

-- the path is a member that begins no other, and is not empty
abbrev pub IsEndHere : List SerialOp → List (List SerialOp) → Type 0
IsEndHere path below = (length (branches_of below) ≡ 0) × Has below [] × (path ≢ [])

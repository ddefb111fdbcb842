-- Entries of a listed history, each with or without the mark `?`, which leaves its outcome free.
use Rattle.std.specs.Prelude.{◌≡◌, ℕ, Bool, true, false, List, [], ◌∷◌, ◌++◌, map, All, codes}
use Rattle.lu_history.specs.declared.serial.SerialOp.{SerialOp}
use Rattle.lu_spec.specs.declared.marked_line.MarkedOp.{MarkedOp}
use Rattle.lu_spec.specs.SpecText.{IsEntry, IsListable, entry_text}

-- the operations, without their marks
abbrev pub erased : List MarkedOp → List SerialOp
erased q = map (λ entry. entry.op) q

-- an entry without a mark
abbrev pub firm : SerialOp → MarkedOp
firm op = record { op = op; marked = false }

abbrev pub mark_text : Bool → List ℕ
mark_text true = codes "?"
mark_text false = []

-- `t=outcome`, or `t=outcome?` with the mark
abbrev pub marked_text : MarkedOp → List ℕ
marked_text entry = entry_text entry.op ++ mark_text entry.marked

abbrev pub IsMarkedEntry : MarkedOp → Type 0
IsMarkedEntry entry = IsEntry entry.op

-- the words say these entries
abbrev pub SayMarkedEntries : List (List ℕ) → List MarkedOp → Type 0
SayMarkedEntries words q = All IsMarkedEntry q × (words ≡ map marked_text q)

abbrev pub SayNoMarkedEntries : List (List ℕ) → Type 0
SayNoMarkedEntries words =
    (q : List MarkedOp) → All IsMarkedEntry q → words ≡ map marked_text q → ⊥

-- `history` and the entries
abbrev pub marked_words : List MarkedOp → List (List ℕ)
marked_words q = codes "history" ∷ map marked_text q

-- the words say these entries, of which the operations may be listed
abbrev pub SayMarked : List (List ℕ) → List MarkedOp → Type 0
SayMarked words q = IsListable (erased q) × (words ≡ marked_words q)

abbrev pub SayNoMarked : List (List ℕ) → Type 0
SayNoMarked words = (q : List MarkedOp) → IsListable (erased q) → words ≡ marked_words q → ⊥

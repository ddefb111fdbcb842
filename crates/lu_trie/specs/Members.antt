-- Sets of serial histories, as lists of them.
use Rattle.std.specs.Prelude.{◌≡◌, ℕ, ◌+◌, Bool, true, ◌||◌, List, [], ◌∷◌, map, length, if◌then◌else◌}
use Rattle.std.specs.Ordering.{eq_by_cmp}
use Rattle.std.specs.declared.cmp.Ordering.{Ordering}
use Rattle.std.specs.Cmp.Lexicographic.{slice_cmp}
use Rattle.std.specs.List.{list_any}
use Rattle.lu_history.specs.declared.serial.SerialOp.{SerialOp}
use Rattle.lu_history.specs.Order.{op_cmp}
use Rattle.lu_history.specs.Serial.{IsSerial}

-- entry by entry; a proper beginning is smaller
abbrev pub history_cmp : List SerialOp → List SerialOp → Ordering
history_cmp = slice_cmp op_cmp

-- two entries are equal
abbrev pub same_op : SerialOp → SerialOp → Bool
same_op = eq_by_cmp op_cmp

-- two histories are equal
abbrev pub same_history : List SerialOp → List SerialOp → Bool
same_history = eq_by_cmp history_cmp

-- whether the history is a member
abbrev pub contains : List (List SerialOp) → List SerialOp → Bool
contains histories history = list_any (same_history history) histories

-- each member is a serial history
abbrev pub AllSerial : List (List SerialOp) → Type 0
AllSerial histories =
    (history : List SerialOp) → contains histories history ≡ true → IsSerial history

-- new is old and the history
abbrev pub Adds : List (List SerialOp) → List (List SerialOp) → List SerialOp → Type 0
Adds old new history =
    (other : List SerialOp)
    → contains new other ≡ (same_history other history || contains old other)

-- each history after the entry
abbrev pub after : SerialOp → List (List SerialOp) → List (List SerialOp)
after op histories = map (λ history. op ∷ history) histories

-- the empty history, where it is a member
abbrev pub empty_if : Bool → List (List SerialOp)
empty_if ends = if ends then [] ∷ [] else []

-- one for each member and one for each entry of a member
abbrev pub weight : List (List SerialOp) → ℕ
weight [] = 0
weight (history ∷ histories) = length history + 1 + weight histories

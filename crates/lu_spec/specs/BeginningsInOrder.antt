-- The beginnings of the histories of a set, as a list in the same order.
use Rattle.std.specs.Prelude.{List, [], ◌∷◌, ◌++◌, if◌then◌else◌}
use Rattle.lu_history.specs.declared.serial.SerialOp.{SerialOp}
use Rattle.lu_trie.specs.Members.{after, same_op}

-- the beginnings of q that are not beginnings of p
abbrev pub further : List SerialOp → List SerialOp → List (List SerialOp)
further p [] = []
further [] (b ∷ q) = after b ([] ∷ further [] q)
further (a ∷ p) (b ∷ q) =
    if same_op a b then after b (further p q) else after b ([] ∷ further [] q)

-- so of each history, as against the one before it, which is p for the first
abbrev pub all_further : List SerialOp → List (List SerialOp) → List (List SerialOp)
all_further p [] = []
all_further p (q ∷ histories) = further p q ++ all_further q histories

-- the empty history, and the beginnings of each history that are not beginnings of the one before
abbrev pub beginnings_of : List (List SerialOp) → List (List SerialOp)
beginnings_of histories = [] ∷ all_further [] histories

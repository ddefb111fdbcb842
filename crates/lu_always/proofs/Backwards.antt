-- The moves of arrivals, from the last arrival to the first.
use Rattle.std.proofs.Common.{◌≡◌, List, [], ◌∷◌, ◌++◌, sym, ◌∙◌, ap, append_assoc}
use Rattle.std.proofs.lemmas.List.{append-nil}
use Rattle.lu_test.specs.declared.schedule.Move.{Move}
use Rattle.lu_always.specs.declared.stored.Arrival.{Arrival}
use Rattle.lu_always.specs.Searching.{moves_of}
use Rattle.lu_always.specs.Ways.{all_moves}

-- the first arrival comes last in the list
pub first_moves : (back : List Arrival) (a : Arrival) → all_moves (back ++ a ∷ []) ≡ moves_of a ++ all_moves back
first_moves [] a = sym (append-nil (moves_of a))
first_moves (b ∷ back) a =
    ap (λ (u : List Move). u ++ moves_of b) (first_moves back a)
    ∙ append_assoc (moves_of a) (all_moves back) (moves_of b)

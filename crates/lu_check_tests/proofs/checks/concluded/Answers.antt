use Rattle.std.proofs.Common.{arith, All, List, sym, subst}
use Rattle.lu_test.specs.declared.schedule.Move.{Move}
use Rattle.lu_parallel.specs.Works.{IsPiece}
use Rattle.lu_check_tests.proofs.checks.concluded.Goals as goal

pub concluded_in_turn-requires-clause-pieces : goal.concluded_in_turn-requires-clause-pieces
concluded_in_turn-requires-clause-pieces g c = λ s is.
    subst (λ (pieces : List (List Move)). All (IsPiece s 40) pieces) (sym c.deref.ensures.value) (c.in_ok-pieces.ensures.pieces s is)

pub concluded_in_turn-requires-clause-of : goal.concluded_in_turn-requires-clause-of
concluded_in_turn-requires-clause-of g c = c.requires

pub concluded_in_turn-requires-clause-few : goal.concluded_in_turn-requires-clause-few
concluded_in_turn-requires-clause-few g c =
    let few = c.in_ok-pieces.ensures.few in
    let long = c.deref.ensures.len in
    omega (arith, few, long)

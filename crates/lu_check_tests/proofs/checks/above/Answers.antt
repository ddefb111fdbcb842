use Rattle.std.proofs.Common.{arith, All, List, sym, subst}
use Rattle.lu_test.specs.declared.schedule.Move.{Move}
use Rattle.lu_parallel.specs.Works.{IsPiece}
use Rattle.lu_check_tests.proofs.checks.above.Goals as goal

pub works_above-requires-clause-pieces : goal.works_above-requires-clause-pieces
works_above-requires-clause-pieces g c = λ s is.
    subst (λ (pieces : List (List Move)). All (IsPiece s 40) pieces) (sym c.deref.ensures.value) (c.in_ok-pieces.ensures.pieces s is)

pub works_above-requires-clause-of : goal.works_above-requires-clause-of
works_above-requires-clause-of g c = c.requires

pub works_above-requires-clause-few : goal.works_above-requires-clause-few
works_above-requires-clause-few g c =
    let few = c.in_ok-pieces.ensures.few in
    let long = c.deref.ensures.len in
    omega (arith, few, long)

use Rattle.lu_graph.proofs.Spread.{MarkedSoFar}
use Rattle.lu_graph.proofs.marking.mark_once.Given as goal

abbrev pub invariant-loop-back : goal.invariant-loop-back
invariant-loop-back l = MarkedSoFar l.edges l.fn.marks l.marks l.back l.is_changed

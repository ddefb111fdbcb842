use Rattle.lu_explain.proofs.Reasons.{NoneOf}
use Rattle.lu_explain.proofs.left_calls.outcome_of.Given as goal

abbrev pub invariant-loop-i : goal.invariant-loop-i
invariant-loop-i g l = NoneOf (g.T.SerialTree.below l.tree l.place) l.t l.i

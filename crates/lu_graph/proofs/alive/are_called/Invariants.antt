use Rattle.lu_graph.proofs.Counted.{IsLeftOf}
use Rattle.lu_graph.proofs.alive.are_called.Given as goal

abbrev pub invariant-loop-op : goal.invariant-loop-op
invariant-loop-op l = IsLeftOf l.called l.front l.op-index l.left

use Rattle.std.proofs.Common.{length}
use Rattle.lu_tree.proofs.OrderSets.{ServeBelow}
use Rattle.lu_tree.proofs.every_order.+has_every_order.Given as goal

abbrev pub decreases-has_every_order : goal.decreases-has_every_order
decreases-has_every_order g l = length l.ops.now

abbrev pub invariant-loop-i : goal.invariant-loop-i
invariant-loop-i g l = ServeBelow (g.T.SerialTree.below l.tree l.place) l.ops l.i

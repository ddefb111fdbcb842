use Rattle.std.proofs.Common.{take}
use Rattle.lu_tree.specs.Tails.{AreMembersAfter}
use Rattle.lu_tree.proofs.every_order.place_after.Given as goal

abbrev pub invariant-loop-op : goal.invariant-loop-op
invariant-loop-op g l = record {
  is : g.T.SerialTree.is_place l.tree l.place;
  behind : AreMembersAfter (take l.op-index l.ops) (g.T.SerialTree.below l.tree l.place) (g.T.SerialTree.members l.tree);
}

use Rattle.lu_tree.proofs.OrderSets.{next_after}
use Rattle.lu_tree.proofs.every_order.place_after.Goals as goal

pub loop-op-preserved : goal.loop-op-preserved
loop-op-preserved g c = record {
  is = c.in_ok-place.ensures.place;
  behind =
      next_after c.args.ops.now c.loop-op.op-index _ (g.T.SerialTree.below c.args.tree.now c.in_ok-place.place) (g.T.SerialTree.below c.args.tree.now c.loop-op.place) (g.T.SerialTree.members c.args.tree.now) c.loop-op-test.true c.loop-op.invariant.behind c.in_ok-place.ensures.after;
}

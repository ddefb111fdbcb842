use Rattle.std.proofs.Common.{take}
use Rattle.lu_witness.specs.Search.{AreTaken}
use Rattle.lu_explain.specs.AnyOrders.{IsInOrder}
use Rattle.lu_explain.proofs.orders.first_broken.Given as goal

abbrev pub invariant-loop-op : goal.invariant-loop-op
invariant-loop-op l = record {
  are : AreTaken (take l.op-index l.order) l.taken;
  before : IsInOrder l.history l.order l.op-index;
}

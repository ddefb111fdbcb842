use Rattle.lu_tree.proofs.OrderSets.{some_entry}
use Rattle.lu_tree.proofs.every_order.has_thread.Goals as goal

pub returns-then-op-thread : goal.returns-then-op-thread
returns-then-op-thread c = λ yes. some_entry c.args.thread c.args.ops.now c.loop-op.op-index _ c.loop-op-test.true c.if-op-thread.true

use Rattle.std.proofs.Common.{arith}
use Rattle.lu_graph.proofs.Counted.{counted_other, counted_own}
use Rattle.lu_graph.proofs.members.count.Goals.{then-op-thread, else-op-thread}
use Rattle.lu_graph.proofs.members.count.Goals as goal

pub loop-op-preserved : goal.loop-op-preserved
loop-op-preserved c = elim c.if-op-thread.branch [
  | then-op-thread w ↦
      (let more = counted_own c.args.history.now c.args.thread c.loop-op.op-index _ (omega arith) w.if-op-thread.true in
      record { few = omega (arith, w.count-is); counted = omega (arith, w.count-is, more) })
  | else-op-thread w ↦
      (let same = counted_other c.args.history.now c.args.thread c.loop-op.op-index _ (omega arith) w.if-op-thread.false in
      record { few = omega (arith, w.count-is); counted = omega (arith, w.count-is, same) })
]

use Rattle.std.proofs.Common.{arith}
use Rattle.lu_graph.proofs.Counted.{counted_other, counted_own}
use Rattle.lu_graph.proofs.members.position_of.Goals.{then-history-position+else-seen-number, else-history-position}
use Rattle.lu_graph.proofs.members.position_of.Goals as goal

pub loop-position-preserved : goal.loop-position-preserved
loop-position-preserved c = elim c.if-history-position.branch [
  | then-history-position+else-seen-number w ↦
      (let more = counted_own c.args.history.now c.args.thread c.loop-position.position _ (omega arith) w.if-history-position.true in
      record { few = omega (arith, w.seen-is); before = omega (arith, w.seen-is, w.if-seen-number.false); counted = omega (arith, w.seen-is, more) })
  | else-history-position w ↦
      (let same = counted_other c.args.history.now c.args.thread c.loop-position.position _ (omega arith) w.if-history-position.false in
      record { few = omega (arith, w.seen-is); before = omega (arith, w.seen-is); counted = omega (arith, w.seen-is, same) })
]

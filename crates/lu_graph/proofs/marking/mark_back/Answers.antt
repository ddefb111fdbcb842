use Rattle.std.proofs.Common.{arith}
use Rattle.lu_graph.proofs.Spread.{marked_back, on_trans}
use Rattle.lu_graph.proofs.marking.mark_back.Goals as goal

pub loop-is_changed-preserved : goal.loop-is_changed-preserved
loop-is_changed-preserved c = record {
  size = omega arith;
  on = on_trans c.args.edges.now c.args.marks.now c.loop-is_changed.marks c.mark_once-is_changed.new.marks c.loop-is_changed.invariant.on c.mark_once-is_changed.ensures.on;
  stable = λ same. (c.mark_once-is_changed.ensures.settled same).1;
}

pub returns : goal.returns
returns c = marked_back c.args.edges.now c.args.marks.now c.loop-is_changed.marks c.loop-is_changed.invariant.on (c.loop-is_changed.invariant.stable c.loop-is_changed-test.false)

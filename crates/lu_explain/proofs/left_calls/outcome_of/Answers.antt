use Rattle.std.proofs.Common.{arith}
use Rattle.lu_explain.proofs.Reasons.{least_first, none_first}
use Rattle.lu_explain.proofs.left_calls.outcome_of.Goals as goal

pub returns-then-op-t : goal.returns-then-op-t
returns-then-op-t g c =
    let law = g.met.T.SerialTree.branching c.args.tree.now c.args.place c.requires in
    least_first _ law c.args.t c.loop-i.i _ c.kid.ensures.kid c.if-op-t.true c.loop-i.invariant

pub returns : goal.returns
returns g c =
    let law = g.met.T.SerialTree.branching c.args.tree.now c.args.place c.requires in
    none_first _ law c.args.t c.loop-i.i (omega (arith, c.kid_count-i-end.ensures)) c.loop-i.invariant

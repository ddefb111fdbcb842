use Rattle.std.proofs.Common.{arith, ap, length}
use Rattle.lu_certify.proofs.CutLengths.{are_bases}
use Rattle.lu_certify.proofs.cuts.length_counts.Goals as goal

pub returns-clause-bases : goal.returns-clause-bases
returns-clause-bases c =
    let long = ap length c.as_slice-calls-items.ensures.calls in
    are_bases c.args.matrix.now c.loop-calls.calls-index c.loop-calls.counts.items c.as_slice-calls-items.ensures.sound (omega (arith, long)) c.loop-calls.invariant

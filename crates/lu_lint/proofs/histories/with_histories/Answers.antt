use Rattle.std.proofs.Common.{arith, []}
use Rattle.lu_lint.proofs.FurtherParts.{ends, goes_on}
use Rattle.lu_lint.proofs.histories.with_histories.Goals as goal

pub loop-text-preserved : goal.loop-text-preserved
loop-text-preserved over c =
    goes_on c.in-Some.matrix c.loop-text.above c.in_ok-above.above c.args.parts.now c.loop-text.text-index (record { ref_ptr = (0, 0); now = [] }) _ _ _ (omega arith) c.in_ok-all.ensures c.in_ok-above.ensures c.loop-text.invariant

pub returns : goal.returns
returns over c = rw c.in-Some.is (ends c.in-Some.matrix c.loop-text.above c.args.parts.now c.loop-text.text-index _ _ (omega arith) c.loop-text.invariant)

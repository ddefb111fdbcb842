use Rattle.std.proofs.Common.{[], arith, rules}
use Rattle.lu_lint.proofs.Cuts.{goes_past}
use Rattle.lu_lint.proofs.bundle.with_separators.Goals as goal

pub loop-before-preserved : goal.loop-before-preserved
loop-before-preserved over c =
    goes_past c.args.lines.now c.loop-before.before (record { ref_ptr = (0, 0); now = [] }) _ _ _ (omega arith) (search rules) c.loop-before.invariant

pub loop-before-preserved-then-not-is_blurred : goal.loop-before-preserved-then-not-is_blurred
loop-before-preserved-then-not-is_blurred over c =
    goes_past c.args.lines.now c.loop-before.before (record { ref_ptr = (0, 0); now = [] }) _ _ _ (omega arith) (search rules) c.loop-before.invariant

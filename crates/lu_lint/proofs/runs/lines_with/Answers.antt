use Rattle.std.proofs.Common.{[], arith}
use Rattle.lu_lint.proofs.LineNumbers.{line_more, no_line_more}
use Rattle.lu_lint.proofs.runs.lines_with.Goals as goal

pub loop-before-preserved : goal.loop-before-preserved
loop-before-preserved c =
    line_more c.args.word.now c.deref-line-items.result.now c.loop-before.before (record { ref_ptr = (0, 0); now = [] }) _ _ _ (omega arith) c.in_ok-found.ensures c.loop-before.invariant

pub returns : goal.returns
returns c = no_line_more c.args.word.now c.deref-line-items.result.now c.loop-before.before _ _ _ (omega arith) c.loop-before.invariant

use Rattle.std.proofs.Common.{◌∙◌, ap, arith, map}
use Rattle.lu_lint.specs.Warnings.{without_words}
use Rattle.lu_lint.proofs.Warned.{found_more, one_more}
use Rattle.lu_lint.proofs.warning.with_found.Goals as goal

pub loop-found-preserved : goal.loop-found-preserved
loop-found-preserved over c = found_more c.args.at.now c.args.hints.now c.loop-found.found-index _ _ _ _ _ (omega arith) (rw c.deref.ensures.value at c.line_before.ensures) c.loop-found.invariant (ap (map without_words) c.in_ok-push.ensures.items ∙ one_more c.loop-found.warnings.items _)

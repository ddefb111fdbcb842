use Rattle.std.proofs.lemmas.Result.{IfOk-weaker}
use Rattle.lu_lint.proofs.FurtherParts.{of_fourth}
use Rattle.lu_lint.proofs.further.with_fourth.Goals as goal

pub returns : goal.returns
returns over c = IfOk-weaker c.with_fifth.result _ _ (λ next is. of_fourth c.args.marks c.args.matrix.now c.args.above _ c.args.parts.now _ _ _ _ _ c.in-Some.ensures.cases.0 c.in_ok-after.ensures c.in_ok-all.ensures is) c.with_fifth.ensures

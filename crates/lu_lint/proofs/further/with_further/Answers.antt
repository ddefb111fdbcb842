use Rattle.std.proofs.lemmas.Result.{IfOk-weaker}
use Rattle.lu_lint.proofs.FurtherParts.{of_third}
use Rattle.lu_lint.proofs.further.with_further.Goals as goal

pub returns : goal.returns
returns over c = IfOk-weaker c.with_after.result _ _ (λ next such. of_third c.args.marks c.args.matrix.now _ c.args.above _ c.args.parts.now _ _ _ _ _ c.in-Some.ensures.cases.0 c.in_ok-kind.ensures c.in_ok-after.ensures c.in_ok-all.ensures such) c.with_after.ensures

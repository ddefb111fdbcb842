use Rattle.std.proofs.lemmas.Result.{IfOk-weaker}
use Rattle.lu_lint.proofs.Joined.{of_matrix}
use Rattle.lu_lint.proofs.linting.with_after.Goals as goal

pub returns : goal.returns
returns over c = IfOk-weaker c.with_runs.result _ _ (λ next such. of_matrix c.args.options c.args.component.now c.args.above _ c.args.parts.now _ _ _ _ _ _ _ c.in-Some.ensures.cases.0 c.in_ok-all.ensures.said.0 c.in_ok-all.ensures.said.1 c.in_ok-after.ensures c.in_ok-all-2.ensures such) c.with_runs.ensures

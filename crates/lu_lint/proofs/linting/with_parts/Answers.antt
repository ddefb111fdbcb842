use Rattle.std.proofs.lemmas.Result.{IfOk-weaker}
use Rattle.lu_lint.proofs.Joined.{of_component}
use Rattle.lu_lint.proofs.linting.with_parts.Goals as goal

pub returns : goal.returns
returns over c = IfOk-weaker c.with_after.result _ _ (λ next such. of_component c.args.options c.args.parts.now _ _ _ _ _ _ _ c.in-Some.ensures.cases.0 c.in_ok-all.ensures.0 c.in_ok-all.ensures.1 c.in_ok-above.ensures such) c.with_after.ensures

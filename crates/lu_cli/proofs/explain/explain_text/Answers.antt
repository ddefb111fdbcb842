use Rattle.std.proofs.lemmas.Result.{err_from_is_err_and}
use Rattle.lu_cli.specs.Explain.{limits_for}
use Rattle.lu_cli.specs.Explanation.{IsExplainedSerially}
use Rattle.lu_cli.proofs.Explained.{target_answered, target_refused}
use Rattle.lu_cli.proofs.explain.explain_text.Goals as goal

pub returns-in_err-target : goal.returns-in_err-target
returns-in_err-target c =
    let p = err_from_is_err_and c.from_residual.result c.from_residual.ensures.1 in
    rw (p.1, p.2) (target_refused c.args.target.now (λ t. IsExplainedSerially c.args.by (limits_for c.args.bounds t) c.args.test.component.now c.args.test.matrix.now t) c.in_err-target.field-0.0 c.in_err-target.ensures.refused)

pub returns : goal.returns
returns c =
    let target = c.in_ok-target.target in
    let answer = c.in_ok-explain_serially.field-0 in
    let own : IsExplainedSerially c.args.by (limits_for c.args.bounds target) c.args.test.component.now c.args.test.matrix.now target answer = rw (← c.bounds_for-bounds.ensures) c.in_ok-explain_serially.ensures in
    target_answered c.args.target.now (λ t. IsExplainedSerially c.args.by (limits_for c.args.bounds t) c.args.test.component.now c.args.test.matrix.now t) target c.in_ok-target.ensures.read answer own

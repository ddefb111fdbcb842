use Rattle.std.proofs.lemmas.Result.{IfOk-weaker}
use Rattle.lu_text.specs.Lines.{texts}
use Rattle.lu_cli.specs.Lint.{IsLintedAfter, IsSourceLinted}
use Rattle.lu_cli.proofs.lint.lint_source.Goals as goal

pub returns-in-Ok : goal.returns-in-Ok
returns-in-Ok c =
    let source = c.args.source.now in
    let parts = texts c.args.parts.now in
    IfOk-weaker c.lint_after.result (IsLintedAfter c.args.asked source parts c.in-Ok.component) (IsSourceLinted c.args.asked source parts)
    (λ answer is. rw c.in-Ok.ensures.exact is) c.lint_after.ensures

use Rattle.std.proofs.Common.{subst, sym}
use Rattle.lu_cli.specs.declared.request.Request.{Request}
use Rattle.lu_cli.specs.Program.{IsAnswerToRead}
use Rattle.lu_cli.proofs.Sayings.{help_from}
use Rattle.lu_cli.proofs.program.answer_in.Goals as goal

pub returns-in_ok-answer_help-in-Commands-clause-answer : goal.returns-in_ok-answer_help-in-Commands-clause-answer
returns-in_ok-answer_help-in-Commands-clause-answer g c =
    let known = g.R.Read.remaining c.args.input.now.inner in
    let answer = c.in_ok-answer_help-in-Commands.field-0 in
    subst (λ (r : Request). IsAnswerToRead r known answer) (sym c.in-Commands.is) (help_from known answer c.in_ok-answer_help-in-Commands.ensures)

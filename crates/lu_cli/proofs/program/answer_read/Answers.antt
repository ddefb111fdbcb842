use Rattle.std.proofs.Common.{Err, ap, ◌∙◌}
use Rattle.lu_cli.proofs.Sayings.{request_long}
use Rattle.lu_cli.proofs.program.answer_read.Goals as goal

pub returns-in_ok-refused-in-Err-TooLong-clause-answer : goal.returns-in_ok-refused-in-Err-TooLong-clause-answer
returns-in_ok-refused-in-Err-TooLong-clause-answer g c =
    let long = c.read_input.ensures.long (c.in-Err-TooLong.is ∙ ap Err c.in-Err-TooLong.field-0-is) in
    request_long c.args.request (g.R.Read.remaining c.args.input.now.inner) c.in_ok-refused-in-Err-TooLong.field-0 c.requires.reads long c.in_ok-refused-in-Err-TooLong.ensures

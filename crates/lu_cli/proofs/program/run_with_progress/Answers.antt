use Rattle.std.proofs.Common.{◌≡◌, ◌<◌, Err, inr, refl, ap, ◌∙◌, arith}
use Rattle.lu_cli.specs.Outcomes.{Answer, no_memory}
use Rattle.lu_cli.specs.Program.{IsAnswerToRead}
use Rattle.lu_cli.proofs.Sayings.{memory_else, said, said_else, words_else}
use Rattle.lu_cli.proofs.program.run_with_progress.Goals as goal

pub returns-in-Ok-clause-answer : goal.returns-in-Ok-clause-answer
returns-in-Ok-clause-answer g c = λ request e reads writes.
    let sent = c.say.ensures.sent writes in
    said (IsAnswerToRead request (g.R.Read.remaining c.args.input.now.inner)) c.in-Ok.answer c.as_str.result.now _ _ _ (c.in-Ok.ensures.answer request e) (c.as_str.ensures.value ∙ ap (λ (a : Answer). a.text) c.answer.view_is) (sent.0, sent.1 ∙ ap (λ (a : Answer). a.status) c.answer.view_is)

pub returns-in-Ok-clause-blamed : goal.returns-in-Ok-clause-blamed
returns-in-Ok-clause-blamed g c = λ writes reads.
    let sent = c.say.ensures.sent writes in
    said_else c.in-Ok.answer c.as_str.result.now _ _ _ (words_else _ _ c.in-Ok.answer c.in-Ok.ensures.answer c.in-Ok.ensures.refused) (c.as_str.ensures.value ∙ ap (λ (a : Answer). a.text) c.answer.view_is) (sent.0, sent.1 ∙ ap (λ (a : Answer). a.status) c.answer.view_is)

pub returns-in-Err-Memory-clause-answer : goal.returns-in-Err-Memory-clause-answer
returns-in-Err-Memory-clause-answer g c = λ request e reads writes. inr (c.say-in-Err-Memory.ensures.sent writes)

pub returns-in-Err-Memory-clause-refused : goal.returns-in-Err-Memory-clause-refused
returns-in-Err-Memory-clause-refused g c = λ e writes. inr (c.say-in-Err-Memory.ensures.sent writes)

pub returns-in-Err-Memory-clause-blamed : goal.returns-in-Err-Memory-clause-blamed
returns-in-Err-Memory-clause-blamed g c = λ writes reads. (no_memory, memory_else, c.say-in-Err-Memory.ensures.sent writes)

pub returns-in-Err-Device-clause-refused : goal.returns-in-Err-Device-clause-refused
returns-in-Err-Device-clause-refused g c = λ e writes.
    let same : c.answer_for.new.input.failures ≡ c.args.input.now.failures = rw (c.answer_for.ensures.early e) refl in
    let more : c.args.input.now.failures < c.answer_for.new.input.failures = c.answer_for.ensures.device (c.in-Err-Device.is ∙ ap Err c.in-Err-Device.field-0-is) in
    absurd (omega arith)

pub returns-in-Err-Device-clause-unread : goal.returns-in-Err-Device-clause-unread
returns-in-Err-Device-clause-unread g c = λ writes. inr (c.say-in-Err-Device.ensures.sent writes)

pub returns-in-Err-Device-clause-blamed : goal.returns-in-Err-Device-clause-blamed
returns-in-Err-Device-clause-blamed g c = λ writes reads.
    let more : c.args.input.now.failures < c.answer_for.new.input.failures = c.answer_for.ensures.device (c.in-Err-Device.is ∙ ap Err c.in-Err-Device.field-0-is) in
    absurd (omega arith)

use Rattle.std.proofs.Common.{ap, ◌∙◌}
use Rattle.std.proofs.lemmas.Result.{err_from_is_err_and}
use Rattle.lu_text.proofs.Reading.{line_ok}
use Rattle.lu_text.specs.Faults.{on_line}
use Rattle.lu_text.specs.Lines.{texts}
use Rattle.lu_run.specs.Reading.{seen, seen_if}
use Rattle.lu_run.specs.RunText.{begun, line_with, next_line}
use Rattle.lu_run.proofs.Saying.{not_begun}
use Rattle.lu_run.proofs.reading.line_with.Goals as goal

pub returns-in_err-next_line-in-Some-clause-said : goal.returns-in_err-next_line-in-Some-clause-said
returns-in_err-next_line-in-Some-clause-said c =
    let p = err_from_is_err_and c.from_residual.result c.from_residual.ensures.1 in
    rw (p.1, p.2, c.in-Some.is) (not_begun c.args.line c.in_err-next_line-in-Some.field-0.0 (next_line c.args.component.now (seen c.in-Some.draft) c.args.word.now (texts c.args.words.now)) c.in_err-next_line-in-Some.ensures.said)

pub returns-in_ok-next_line-in-Some-clause-said : goal.returns-in_ok-next_line-in-Some-clause-said
returns-in_ok-next_line-in-Some-clause-said c =
    let meant = next_line c.args.component.now (seen c.in-Some.draft) c.args.word.now (texts c.args.words.now) in
    let is = line_ok c.args.line meant (seen c.in_ok-next_line-in-Some.field-0) c.in_ok-next_line-in-Some.ensures.said in
    ap (λ d. on_line c.args.line (line_with c.args.component.now (seen_if d) c.args.word.now (texts c.args.words.now))) c.in-Some.is ∙ ap (λ r. on_line c.args.line (begun r)) is

pub returns-else-not-is_alone-clause-sound : goal.returns-else-not-is_alone-clause-sound
returns-else-not-is_alone-clause-sound c = c.first_draft.ensures.sound c.args.component.now

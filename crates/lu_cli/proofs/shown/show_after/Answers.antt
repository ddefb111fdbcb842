use Rattle.std.proofs.Common.{◌≡◌, Some, rules}
use Rattle.std.proofs.lemmas.Result.{err_from_is_err_and}
use Rattle.lu_text.specs.Lines.{texts}
use Rattle.lu_cli.specs.Shown.{IsTextShown, shown_parts}
use Rattle.lu_cli.proofs.WordedTexts.{worded_answered, worded_refused}
use Rattle.lu_cli.proofs.shown.show_after.Goals as goal

pub returns-in_err-worded : goal.returns-in_err-worded
returns-in_err-worded c =
    let p = c.in_ok-component in
    let refused = err_from_is_err_and c.from_residual-in_err-worded.result c.from_residual-in_err-worded.ensures.1 in
    let parts : shown_parts (texts c.args.parts.now) ≡ Some (p.component.now, p.matrix.now, p.shown.now) = search rules in
    rw (refused.1, refused.2, parts) (worded_refused p.component.now p.matrix.now c.in_err-worded.field-0.0 (λ how d m. IsTextShown c.args.view how d m p.shown.now) c.in_err-worded.ensures.refused)

pub returns : goal.returns
returns c =
    let p = c.in_ok-component in
    let read = c.in_ok-worded in
    let parts : shown_parts (texts c.args.parts.now) ≡ Some (p.component.now, p.matrix.now, p.shown.now) = search rules in
    rw parts
    (worded_answered p.component.now p.matrix.now read.worded c.wording.result (λ how d m. IsTextShown c.args.view how d m p.shown.now)
    read.ensures.read c.wording.ensures c.show_text.result c.show_text.ensures)

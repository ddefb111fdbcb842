use Rattle.std.proofs.Common.{◌≡◌, Some, rules}
use Rattle.std.proofs.lemmas.Result.{err_from_is_err_and}
use Rattle.lu_text.specs.Lines.{texts}
use Rattle.lu_text.specs.Words.{exactly_four}
use Rattle.lu_cli.specs.Explain.{IsExplainedAgainstText}
use Rattle.lu_cli.proofs.WordedTexts.{worded_answered, worded_refused}
use Rattle.lu_cli.proofs.explain.answer_explain_against.Goals as goal

pub returns-in_err-worded : goal.returns-in_err-worded
returns-in_err-worded c =
    let p = c.in_ok-component in
    let refused = err_from_is_err_and c.from_residual-in_err-worded.result c.from_residual-in_err-worded.ensures.1 in
    let parts : exactly_four (texts c.args.parts.now) ≡ Some (p.component.now, p.matrix.now, p.target.now, p.specification.now) = search rules in
    rw (refused.1, refused.2, parts) (worded_refused p.component.now p.matrix.now c.in_err-worded.field-0.0 (λ how d m. IsExplainedAgainstText how d m p.target.now c.args.marks p.specification.now) c.in_err-worded.ensures.refused)

pub returns : goal.returns
returns c =
    let p = c.in_ok-component in
    let read = c.in_ok-worded in
    let parts : exactly_four (texts c.args.parts.now) ≡ Some (p.component.now, p.matrix.now, p.target.now, p.specification.now) = search rules in
    rw parts
    (worded_answered p.component.now p.matrix.now read.worded c.wording-how.result (λ how d m. IsExplainedAgainstText how d m p.target.now c.args.marks p.specification.now)
    read.ensures.read c.wording-how.ensures c.explain_against.result c.explain_against.ensures)

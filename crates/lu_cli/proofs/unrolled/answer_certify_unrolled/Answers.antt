use Rattle.std.proofs.Common.{◌≡◌, Ok, Some, rules}
use Rattle.std.proofs.lemmas.Result.{err_from_is_err_and}
use Rattle.lu_text.specs.Lines.{texts}
use Rattle.lu_text.specs.Words.{exactly_two}
use Rattle.lu_cli.specs.Unrolled.{IsCertifiedUnrolled}
use Rattle.lu_cli.proofs.Refuted.{texts_answered, texts_refused}
use Rattle.lu_cli.proofs.unrolled.answer_certify_unrolled.Goals as goal

pub returns-in_err-case : goal.returns-in_err-case
returns-in_err-case g c =
    let p = c.in_ok-component in
    let refused = err_from_is_err_and c.from_residual-in_err-case.result c.from_residual-in_err-case.ensures.1 in
    let parts : exactly_two (texts c.args.parts.now) ≡ Some (p.component.now, p.matrix.now) = search rules in
    rw (refused.1, refused.2, parts) (texts_refused p.component.now p.matrix.now c.in_err-case.field-0.0 (λ d m a. IsCertifiedUnrolled d m c.args.asked c.args.repetition a) c.in_err-case.ensures.fault)

pub returns : goal.returns
returns g c =
    let p = c.in_ok-component in
    let read = c.in_ok-case in
    let parts : exactly_two (texts c.args.parts.now) ≡ Some (p.component.now, p.matrix.now) = search rules in
    rw parts
    (texts_answered p.component.now p.matrix.now read.case.component read.case.matrix (λ d m a. IsCertifiedUnrolled d m c.args.asked c.args.repetition a)
    read.ensures.read (Ok c.in_ok-certify_unrolled.field-0) c.in_ok-certify_unrolled.ensures)

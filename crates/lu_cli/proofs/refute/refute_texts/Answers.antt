use Rattle.std.proofs.Common.{inl}
use Rattle.std.proofs.lemmas.Option.{IfSome_then}
use Rattle.std.proofs.lemmas.Result.{err_from_is_err_and}
use Rattle.lu_spec.specs.Codes.{spec_code_of}
use Rattle.lu_cli.specs.Refusals.{line_answer}
use Rattle.lu_cli.specs.Reading.{ToSpec}
use Rattle.lu_cli.specs.Refute.{IsRefuted, IsRefutedTexts}
use Rattle.lu_cli.proofs.Refuted.{answered_more, report_refused, spec_refused}
use Rattle.lu_cli.proofs.refute.refute_texts.Goals as goal

pub returns-in_err-report : goal.returns-in_err-report
returns-in_err-report c =
    let p = err_from_is_err_and c.from_residual.result c.from_residual.ensures.1 in
    rw (p.1, p.2)
    (report_refused c.args.report.now c.in_err-report.field-0.0
    (λ r. ToSpec c.args.test.matrix.now c.args.specification.now (IsRefuted c.args.test.component.now c.args.test.matrix.now r)) c.in_err-report.ensures.fault)

pub returns-in_err-specification : goal.returns-in_err-specification
returns-in_err-specification c =
    let p = err_from_is_err_and c.from_residual-in_err-specification.result c.from_residual-in_err-specification.ensures.1 in
    let fault = c.in_err-specification.field-0.0 in
    let answers = IsRefuted c.args.test.component.now c.args.test.matrix.now c.in_ok-report.report in
    let refused = spec_refused c.args.test.matrix.now c.args.specification.now fault answers c.in_err-specification.ensures.fault in
    rw (p.1, p.2)
    (IfSome_then (line_answer spec_code_of fault) {Q = IsRefutedTexts c.args.test.component.now c.args.test.matrix.now c.args.report.now c.args.specification.now} refused
    (λ a is. inl (c.in_ok-report.report, c.in_ok-report.ensures.found, is)))

pub returns : goal.returns
returns c =
    answered_more (IsRefuted c.args.test.component.now c.args.test.matrix.now c.in_ok-report.report c.in_ok-specification.specification)
    (IsRefutedTexts c.args.test.component.now c.args.test.matrix.now c.args.report.now c.args.specification.now)
    (λ a is. inl (c.in_ok-report.report, c.in_ok-report.ensures.found, inl (c.in_ok-specification.specification, c.in_ok-specification.ensures.read, is)))
    c.refute_spec.result c.refute_spec.ensures

use Rattle.std.proofs.Common.{inl}
use Rattle.std.proofs.lemmas.Result.{err_from_is_err_and}
use Rattle.lu_cli.proofs.Certified.{check_refused}
use Rattle.lu_cli.proofs.check.check_test.Goals as goal

pub returns-in_err-report : goal.returns-in_err-report
returns-in_err-report g c =
    let p = err_from_is_err_and c.from_residual.result c.from_residual.ensures.1 in
    rw (p.1, p.2) (check_refused c.args.test.component.now c.args.test.matrix.now c.args.options c.in_err-report.field-0.0 c.in_err-report.ensures.alone)

pub returns : goal.returns
returns g c = inl (c.in_ok-report.report, c.in_ok-report.ensures.report, c.in_ok-show_report.ensures)

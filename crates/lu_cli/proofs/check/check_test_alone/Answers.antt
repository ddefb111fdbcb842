use Rattle.std.proofs.Common.{ℕ, inl, subst}
use Rattle.lu_replay.specs.Reports.{IsReport}
use Rattle.lu_cli.proofs.check.check_test_alone.Goals as goal

pub returns : goal.returns
returns c =
    let component = c.args.test.component.now in
    let matrix = c.args.test.matrix.now in
    let report = c.in_ok-report.report in
    let is = subst (λ (n : ℕ). IsReport component matrix n c.args.options.serial report) c.bound-bound.ensures.bound (subst (λ (n : ℕ). IsReport component matrix c.bound-bound.result n report) c.serial-serial.ensures.serial c.in_ok-report.ensures) in
    inl (report, is, c.in_ok-show_report.ensures)

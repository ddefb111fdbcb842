use Rattle.std.proofs.Common.{List, subst}
use Rattle.std.proofs.lemmas.Result.{err_from_is_err_and}
use Rattle.lu_history.specs.declared.serial.SerialOp.{SerialOp}
use Rattle.lu_witness.specs.Witnesses.{IsMember}
use Rattle.lu_replay.specs.Reports.{IsReportAgainst}
use Rattle.lu_cli.specs.declared.texts.Fault.TheVariants.{Check, Spec}
use Rattle.lu_cli.proofs.Against.{against_refused, against_reported}
use Rattle.lu_cli.proofs.check.check_test_against.Goals as goal

pub returns-in_err-specification : goal.returns-in_err-specification
returns-in_err-specification g c =
    let refused = err_from_is_err_and c.from_residual.result c.from_residual.ensures.1 in
    rw (refused.1, refused.2) (against_refused c.args.test.component.now c.args.test.matrix.now c.args.marks c.args.specification.now c.args.options (Spec c.in_err-specification.field-0.0) c.in_err-specification.ensures.fault)

pub returns-in_err-report : goal.returns-in_err-report
returns-in_err-report g c =
    let set = c.in_ok-specification in
    let refused = err_from_is_err_and c.from_residual-in_err-report.result c.from_residual-in_err-report.ensures.1 in
    rw (refused.1, refused.2) (against_refused c.args.test.component.now c.args.test.matrix.now c.args.marks c.args.specification.now c.args.options (Check c.in_err-report.field-0.0) (set.specification, set.ensures.read, c.in_err-report.ensures.alone))

pub returns : goal.returns
returns g c =
    let set = c.in_ok-specification in
    let component = c.args.test.component.now in
    let matrix = c.args.test.matrix.now in
    let report = c.in_ok-report.report in
    let against = subst (λ (x : List (List SerialOp)). IsReportAgainst (IsMember x) component matrix c.args.options.bound report) c.tree-tree.ensures.set c.in_ok-report.ensures.report in
    against_reported component matrix c.args.marks c.args.specification.now c.args.options report c.in_ok-show_report.field-0 (set.specification, set.ensures.read, against) c.in_ok-show_report.ensures

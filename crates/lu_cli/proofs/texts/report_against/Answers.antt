use Rattle.std.proofs.Common.{List, subst}
use Rattle.std.proofs.lemmas.Result.{err_from_is_err_and}
use Rattle.lu_history.specs.declared.serial.SerialOp.{SerialOp}
use Rattle.lu_witness.specs.Witnesses.{IsMember}
use Rattle.lu_replay.specs.Reports.{IsReportAgainst}
use Rattle.lu_cli.proofs.texts.report_against.Goals as goal

pub returns-in_err-report-clause-fault : goal.returns-in_err-report-clause-fault
returns-in_err-report-clause-fault g c =
    let p = err_from_is_err_and c.from_residual-in_err-report.result c.from_residual-in_err-report.ensures.1 in
    rw (p.1, p.2) (c.in_ok-specification.specification, c.in_ok-specification.ensures.read, c.in_err-report.ensures.alone)

pub returns-clause-report : goal.returns-clause-report
returns-clause-report g c = (
  c.in_ok-specification.specification,
  c.in_ok-specification.ensures.read,
  subst (λ (x : List (List SerialOp)). IsReportAgainst (IsMember x) c.args.component.now c.args.matrix.now c.args.options.bound c.in_ok-report.report) c.tree-tree.ensures.set c.in_ok-report.ensures.report,
)

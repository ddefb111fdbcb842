use Rattle.lu_report.proofs.FormLines.{AreJudgedTo}
use Rattle.lu_report.proofs.faults.report_faults.Given as goal

abbrev pub invariant-loop-position : goal.invariant-loop-position
invariant-loop-position l = AreJudgedTo l.version l.lines l.form l.position l.faults.items

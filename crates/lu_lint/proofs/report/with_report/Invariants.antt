use Rattle.std.proofs.Common.{◌≡◌, ◌++◌, drop, map}
use Rattle.lu_lint.specs.Said.{said_of}
use Rattle.lu_lint.specs.Parts.{report_said}
use Rattle.lu_lint.proofs.report.with_report.Given as goal

abbrev pub invariant-loop-fault : goal.invariant-loop-fault
invariant-loop-fault over l = said_of l.all.items ++ map (report_said l.above) (drop l.fault-index l.fault-items) ≡ said_of l.initial.all.items ++ map (report_said l.above) l.fault-items

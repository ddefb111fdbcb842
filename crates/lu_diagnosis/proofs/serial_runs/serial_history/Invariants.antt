use Rattle.lu_diagnosis.proofs.SerialRun.{ReturnsHere}
use Rattle.lu_diagnosis.proofs.serial_runs.serial_history.Given as goal

abbrev pub invariant-loop-next : goal.invariant-loop-next
invariant-loop-next l = ReturnsHere l.initial.machine l.next-items l.next-index l.machine l.entries.items

use Rattle.std.proofs.Common.{take}
use Rattle.lu_machine.specs.Runs.{Leads}
use Rattle.lu_lint.proofs.serial_runs.played.Given as goal

abbrev pub invariant-loop-next : goal.invariant-loop-next
invariant-loop-next l = Leads l.initial.machine (take l.next-index l.next-items) l.machine l.history.items

use Rattle.lu_machine.proofs.Ended.{IsWalked}
use Rattle.lu_machine.proofs.machine.Machine.status.Given as goal

abbrev pub invariant-loop-t : goal.invariant-loop-t
invariant-loop-t l = IsWalked l.self l.t l.complete

use Rattle.lu_machine.proofs.Starting.{IsMaking}
use Rattle.lu_machine.proofs.machine.Machine.make.Given as goal

abbrev pub invariant-loop-moved : goal.invariant-loop-moved
invariant-loop-moved l = IsMaking l.fn.self l.k l._moved l.self

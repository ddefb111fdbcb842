use Rattle.std.proofs.Common.{◌≡◌, ◌-◌, ◌++◌, map, replicate, take}
use Rattle.lu_machine.specs.Steps.{opened}
use Rattle.lu_machine.specs.Tasks.{no_frame}
use Rattle.lu_machine.proofs.program.agenda_of.Given as goal

abbrev pub invariant-loop-k : goal.invariant-loop-k
invariant-loop-k l = l.frames ≡ map opened (take l.k l.calls) ++ replicate (8 - l.k) no_frame

use Rattle.std.proofs.Common.{◌≡◌, map, take}
use Rattle.lu_machine.specs.Tasks.{agenda_of}
use Rattle.lu_machine.proofs.program.agendas.Given as goal

abbrev pub invariant-loop-calls : goal.invariant-loop-calls
invariant-loop-calls l = l.agendas.items ≡ map agenda_of (take l.calls-index l.calls-items)

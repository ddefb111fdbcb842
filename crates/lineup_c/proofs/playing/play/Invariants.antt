use Rattle.std.proofs.Common.{take}
use Rattle.lu_machine.specs.Runs.{Leads}
use Rattle.lineup_c.proofs.playing.play.Given as goal

abbrev pub invariant-loop-number : goal.invariant-loop-number
invariant-loop-number l = Leads l.initial.machine (take l.number l.moves) l.machine l.events.items

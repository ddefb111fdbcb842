use Rattle.std.proofs.Common.{take}
use Rattle.lu_linearization.proofs.Monitored.{NoneSticks}
use Rattle.lu_linearization.proofs.stuck.any_can_be_stuck.Given as goal

abbrev pub invariant-loop-one : goal.invariant-loop-one
invariant-loop-one g l = NoneSticks (g.A.Automaton.next l.automaton) l.call (take l.one-index l.all)

use Rattle.std.proofs.Common.{take}
use Rattle.lu_linearization.specs.Monitors.{AreNext, ThreadTakesEffect, by_thread}
use Rattle.lu_linearization.proofs.closing.first_layer.Given as goal

abbrev pub invariant-loop-one : goal.invariant-loop-one
invariant-loop-one g l = AreNext (ThreadTakesEffect (g.A.Automaton.next l.automaton) (by_thread l.pending) l.thread) (take l.one-index l.from) l.to.items

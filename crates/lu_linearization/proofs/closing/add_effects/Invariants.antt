use Rattle.lu_linearization.specs.Monitors.{by_thread}
use Rattle.lu_linearization.proofs.Layers.{AddsBelow}
use Rattle.lu_linearization.proofs.closing.add_effects.Given as goal

abbrev pub invariant-loop-thread : goal.invariant-loop-thread
invariant-loop-thread g l = AddsBelow (g.A.Automaton.next l.automaton) (by_thread l.pending) l.thread l.from l.fn.to.items l.to.items

use Rattle.std.proofs.Common.{◌+◌}
use Rattle.lu_linearization.specs.Monitors.{by_thread}
use Rattle.lu_linearization.proofs.Layers.{AreUpTo, IsLayer}
use Rattle.lu_linearization.proofs.closing.close.Given as goal

abbrev pub invariant-loop-round : goal.invariant-loop-round
invariant-loop-round g l = record {
  layer : IsLayer (g.A.Automaton.next l.automaton) (by_thread l.pending) l.thread l.from (l._round + 1) l.layer.items;
  all : AreUpTo (g.A.Automaton.next l.automaton) (by_thread l.pending) l.thread l.from (l._round + 1) l.all.items;
}

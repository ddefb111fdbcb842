use Rattle.std.proofs.Common.{◌≡◌, false}
use Rattle.lu_graph.proofs.Charted.{ChartsFrom}
use Rattle.lu_graph.proofs.exploring_states.explore.Given as goal

abbrev pub invariant-loop-at : goal.invariant-loop-at
invariant-loop-at g l = record {
  component : l.machine.component ≡ l.component;
  matrix_is : l.machine.matrix ≡ l.matrix;
  base : g.W.Watch.base l.watch ≡ g.W.Watch.base l.fn.watch;
  running : g.W.Watch.is_stopped l.watch ≡ false;
  charts : ChartsFrom l.component l.matrix l.found l.at l.ended.items;
}

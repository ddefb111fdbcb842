use Rattle.std.proofs.Common.{◌≡◌, false}
use Rattle.lu_graph.specs.Expanding.{AreFound}
use Rattle.lu_graph.specs.Holding.{AreVisitedBy}
use Rattle.lu_graph.proofs.exploring.are_few.Given as goal

abbrev pub invariant-loop-at : goal.invariant-loop-at
invariant-loop-at g l = record {
  component : l.machine.component ≡ l.fn.machine.component;
  matrix_is : l.machine.matrix ≡ l.fn.machine.matrix;
  base : g.W.Watch.base l.watch ≡ g.W.Watch.base l.fn.watch;
  running : g.W.Watch.is_stopped l.watch ≡ false;
  visited : AreVisitedBy l.members l.fn.machine l.nodes l.at;
  ahead : AreFound l.fn.machine.component l.fn.machine.matrix l.members l.nodes l.ahead;
}

use Rattle.std.proofs.Common.{◌≡◌, ◌<◌, false, List}
use Rattle.lu_graph.specs.Kept.{Kept}
use Rattle.lu_graph.specs.Expanding.{AreFound}
use Rattle.lu_graph.specs.Holding.{Hold}
use Rattle.lu_graph.specs.Visiting.{AreVisitedFrom}
use Rattle.lu_graph.proofs.Visiting.{AreSearchedFrom}
use Rattle.lu_graph.proofs.exploring.search.Given as goal

abbrev pub invariant-loop-at : goal.invariant-loop-at
invariant-loop-at g l = record {
  component : l.machine.component ≡ l.fn.machine.component;
  matrix_is : l.machine.matrix ≡ l.fn.machine.matrix;
  base : g.W.Watch.base l.watch ≡ g.W.Watch.base l.fn.watch;
  running : g.W.Watch.is_stopped l.watch ≡ false;
  dead : l.nodes.parts.dead ≡ l.fn.nodes.parts.dead;
  known : (list : List Kept) × Hold l.members l.nodes list
      × AreVisitedFrom l.members l.fn.machine.component l.fn.machine.matrix list l.at
      × AreSearchedFrom l.members l.fn.machine.component l.fn.machine.matrix list l.at l.level.moves l.level.end;
  ahead : AreFound l.fn.machine.component l.fn.machine.matrix l.members l.nodes l.ahead;
  moves : l.level.moves < l.level.end;
}

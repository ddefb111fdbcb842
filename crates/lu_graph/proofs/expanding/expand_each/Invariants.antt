use Rattle.std.proofs.Common.{◌≡◌, ◌≤◌}
use Rattle.lu_graph.specs.Expanding.{AreExpanded}
use Rattle.lu_graph.proofs.expanding.expand_each.Given as goal

abbrev pub invariant-loop-number : goal.invariant-loop-number
invariant-loop-number l = record {
  component : l.machine.component ≡ l.frontier.component.now;
  matrix_is : l.machine.matrix ≡ l.frontier.matrix.now;
  past : l.initial.number ≤ l.number;
  found : AreExpanded l.frontier l.found;
}

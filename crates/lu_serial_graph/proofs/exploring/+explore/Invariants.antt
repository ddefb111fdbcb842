use Rattle.std.proofs.Common.{◌≡◌, ◌++◌, List}
use Rattle.lu_history.specs.declared.serial.SerialOp.{SerialOp}
use Rattle.lu_serial_graph.specs.Exploring.{AllKnown}
use Rattle.lu_serial_graph.proofs.Explored.{Stage}
use Rattle.lu_serial_graph.proofs.exploring.+explore.Given as goal

abbrev pub decreases-explore : goal.decreases-explore
decreases-explore g l = l.left

abbrev pub invariant-loop-t : goal.invariant-loop-t
invariant-loop-t g l = record {
  component : l.search.machine.component ≡ l.fn.search.machine.component;
  matrix : l.search.machine.matrix ≡ l.fn.search.machine.matrix;
  bound : l.search.bound ≡ l.fn.search.bound;
  grows : (more : List (List (List SerialOp))) × (l.search.table ≡ l.fn.search.table ++ more);
  known : AllKnown l.search;
  stage : Stage l.fn.search.machine.component l.fn.search.machine.matrix l.fn.search.bound l.search.table l.rests.positions.items l.links.items l.t;
}

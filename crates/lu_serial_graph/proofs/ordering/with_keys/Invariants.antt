use Rattle.std.proofs.Common.{◌≡◌, ◌++◌, map}
use Rattle.std.specs.Vec.Iter.{into_iter_items}
use Rattle.lu_serial_graph.specs.Ordering.{position_of}
use Rattle.lu_serial_graph.proofs.ordering.with_keys.Given as goal

abbrev pub invariant-loop-position : goal.invariant-loop-position
invariant-loop-position l = record {
  component : l.machine.component ≡ l.fn.machine.component;
  matrix : l.machine.matrix ≡ l.fn.machine.matrix;
  rests : map position_of l.keyed.items ++ into_iter_items l.position-iterator ≡ l.fn.rests.items;
}

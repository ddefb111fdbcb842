use Rattle.std.proofs.Common.{◌≡◌, ◌++◌, map}
use Rattle.std.specs.Vec.Iter.{into_iter_items}
use Rattle.lu_serial_graph.specs.Ordering.{position_of}
use Rattle.lu_serial_graph.proofs.ordering.without_keys.Given as goal

abbrev pub invariant-loop-position : goal.invariant-loop-position
invariant-loop-position l =
    l.rests.items ++ map position_of (into_iter_items l.position-iterator) ≡ map position_of l.fn.keyed.items

use Rattle.std.proofs.Common.{◌≡◌}
use Rattle.lu_graph.specs.Discovering.{Extends}
use Rattle.lu_graph.proofs.Searching.{SearchesBelow}
use Rattle.lu_graph.proofs.discovering.discover_next.Given as goal

abbrev pub invariant-loop-thread : goal.invariant-loop-thread
invariant-loop-thread l = record {
  machine : l.machine ≡ l.fn.machine;
  stay : Extends l.fn.found.positions.keys l.found.positions.keys;
  below : SearchesBelow l.fn.machine l.number l.fn.found l.found (record { thread = l.thread; pick = 0 });
}

abbrev pub invariant-loop-pick : goal.invariant-loop-pick
invariant-loop-pick l = record {
  machine : l.machine ≡ l.fn.machine;
  stay : Extends l.fn.found.positions.keys l.found.positions.keys;
  below : SearchesBelow l.fn.machine l.number l.fn.found l.found (record { thread = l.thread; pick = l.pick });
}

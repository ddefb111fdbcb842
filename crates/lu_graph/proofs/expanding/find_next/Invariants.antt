use Rattle.std.proofs.Common.{◌≡◌, ◌≤◌}
use Rattle.lu_graph.proofs.Expanded.{AreFoundBelow}
use Rattle.lu_graph.proofs.expanding.find_next.Given as goal

abbrev pub invariant-loop-thread : goal.invariant-loop-thread
invariant-loop-thread l = record {
  machine : l.machine ≡ l.fn.machine;
  past : l.initial.thread ≤ l.thread;
  below : AreFoundBelow l.fn.machine l.from l.nodes l.next.items (record { thread = l.thread; pick = 0 });
}

abbrev pub invariant-loop-pick : goal.invariant-loop-pick
invariant-loop-pick l = record {
  machine : l.machine ≡ l.fn.machine;
  below : AreFoundBelow l.fn.machine l.from l.nodes l.next.items (record { thread = l.thread; pick = l.pick });
}

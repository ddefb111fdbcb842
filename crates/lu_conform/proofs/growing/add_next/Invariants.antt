use Rattle.std.proofs.Common.{◌≡◌}
use Rattle.lu_conform.proofs.Grown.{AddsBelow}
use Rattle.lu_conform.proofs.growing.add_next.Given as goal

abbrev pub invariant-loop-thread : goal.invariant-loop-thread
invariant-loop-thread l = record {
  machine : l.machine ≡ l.fn.machine;
  below : AddsBelow l.fn.machine l.so_far.events.now l.so_far.seen l.so_far.place l.fn.stages.entries l.stages.entries (record { thread = l.thread; pick = 0 });
}

abbrev pub invariant-loop-pick : goal.invariant-loop-pick
invariant-loop-pick l = record {
  machine : l.machine ≡ l.fn.machine;
  below : AddsBelow l.fn.machine l.so_far.events.now l.so_far.seen l.so_far.place l.fn.stages.entries l.stages.entries (record { thread = l.thread; pick = l.pick });
}

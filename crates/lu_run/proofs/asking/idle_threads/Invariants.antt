use Rattle.std.proofs.Common.{◌≡◌, replicate}
use Rattle.lu_run.specs.Asking.{at_start}
use Rattle.lu_run.proofs.asking.idle_threads.Given as goal

abbrev pub invariant-loop-thread : goal.invariant-loop-thread
invariant-loop-thread l = l.threads.items ≡ replicate l._thread at_start

use Rattle.lu_always.proofs.Cleared.{AreLiveBefore}
use Rattle.lu_always.proofs.clearing.live_threads.Given as goal

abbrev pub invariant-loop-thread : goal.invariant-loop-thread
invariant-loop-thread l = AreLiveBefore l.fn.dead l.fn.machine l.thread l.all.items

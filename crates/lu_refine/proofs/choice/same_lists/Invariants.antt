use Rattle.std.proofs.Common.{◌≡◌, replicate}
use Rattle.lu_refine.proofs.choice.same_lists.Given as goal

abbrev pub invariant-loop-thread : goal.invariant-loop-thread
invariant-loop-thread l = l.lists.items ≡ replicate l._thread l.candidates

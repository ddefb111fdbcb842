use Rattle.lu_refine.proofs.Filling.{AreFound}
use Rattle.lu_refine.proofs.choice.bases_of.Given as goal

abbrev pub invariant-loop-thread : goal.invariant-loop-thread
invariant-loop-thread l = AreFound l.calls l.candidates l.thread-index l.found.items

use Rattle.lu_graph.proofs.Standings.{HaveCallsSoFar}
use Rattle.lu_graph.proofs.possibilities.calls_of.Given as goal

abbrev pub invariant-loop-thread : goal.invariant-loop-thread
invariant-loop-thread l = HaveCallsSoFar l.machine l.thread l.calls

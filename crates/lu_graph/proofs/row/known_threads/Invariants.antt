use Rattle.lu_graph.proofs.Numbers.{AreNumbersSoFar}
use Rattle.lu_graph.proofs.row.known_threads.Given as goal

abbrev pub invariant-loop-thread : goal.invariant-loop-thread
invariant-loop-thread l = AreNumbersSoFar l.dead l.machine l.table.keys l.table.keys l.thread l.numbers

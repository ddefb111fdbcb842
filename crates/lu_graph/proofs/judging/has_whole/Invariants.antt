use Rattle.lu_graph.proofs.Wholes.{NoneBefore}
use Rattle.lu_graph.proofs.judging.has_whole.Given as goal

abbrev pub invariant-loop-number : goal.invariant-loop-number
invariant-loop-number l = NoneBefore l.machine l.waiting l.members l.alive l.number

use Rattle.lu_always.proofs.Edges.{AreSinksBefore}
use Rattle.lu_always.proofs.sinks.sinks_in.Given as goal

abbrev pub invariant-loop-vertex : goal.invariant-loop-vertex
invariant-loop-vertex l = AreSinksBefore l.fn.graph l.vertex l.sinks.items

use Rattle.lu_always.specs.Marking.{Gains}
use Rattle.lu_always.proofs.Edges.{FromAmong}
use Rattle.lu_always.proofs.sinks.add_edges.Given as goal

abbrev pub invariant-loop-vertex : goal.invariant-loop-vertex
invariant-loop-vertex l = Gains (FromAmong l.vertex-index l.fn.from l.to) l.initial.graph.items l.graph.items

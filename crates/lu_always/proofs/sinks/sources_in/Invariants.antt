use Rattle.lu_always.specs.Marking.{Gains}
use Rattle.lu_always.proofs.Edges.{Backwards}
use Rattle.lu_always.proofs.sinks.sources_in.Given as goal

abbrev pub invariant-loop-vertex : goal.invariant-loop-vertex
invariant-loop-vertex l = Gains (Backwards l.fn.graph l.vertex) l.initial.sources.items l.sources.items

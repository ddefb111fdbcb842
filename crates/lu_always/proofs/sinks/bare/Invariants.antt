use Rattle.lu_always.specs.Marking.{IsBare}
use Rattle.lu_always.proofs.sinks.bare.Given as goal

abbrev pub invariant-loop-vertex : goal.invariant-loop-vertex
invariant-loop-vertex l = IsBare l._vertex l.graph.items

use Rattle.lu_always.specs.Marking.{Marks}
use Rattle.lu_always.proofs.Marked.{IsAmong}
use Rattle.lu_always.proofs.sinks.Marking.mark_all.Given as goal

abbrev pub invariant-loop-vertex : goal.invariant-loop-vertex
invariant-loop-vertex l = Marks (IsAmong l.vertex-index l.fn.vertices) l.initial.self l.self

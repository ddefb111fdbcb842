use Rattle.std.proofs.Common.{◌+◌, length}
use Rattle.lu_always.specs.Marking.{unmarked}
use Rattle.lu_always.proofs.Marked.{IsUnderWay}
use Rattle.lu_always.proofs.sinks.marks_in.Given as goal

abbrev pub invariant-loop-vertex : goal.invariant-loop-vertex
invariant-loop-vertex l = IsUnderWay l.fn.graph l.marking

abbrev pub decreases-loop-vertex : goal.decreases-loop-vertex
decreases-loop-vertex l = length l.marking.todo.items + unmarked l.marking.marks.items

use Rattle.std.proofs.Common.{ℕ, ◌<◌}
use Rattle.lu_always.specs.Marking.{IsMarked}
use Rattle.lu_always.proofs.sinks.first_unmarked.Given as goal

abbrev pub invariant-loop-vertex : goal.invariant-loop-vertex
invariant-loop-vertex l = (i : ℕ) → i < l.vertex → IsMarked l.fn.marks i

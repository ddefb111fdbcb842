use Rattle.std.proofs.Common.{◌≡◌, ◌+◌, ◌*◌, false, if◌then◌else◌, length}
use Rattle.std.specs.Prelude.{count_by, not}
use Rattle.lu_graph.specs.Marking.{AreStable, MarksOn}
use Rattle.lu_graph.proofs.marking.mark_back.Given as goal

abbrev pub decreases-loop-is_changed : goal.decreases-loop-is_changed
decreases-loop-is_changed l = 2 * count_by not l.marks + (if l.is_changed then 1 else 0)

abbrev pub invariant-loop-is_changed : goal.invariant-loop-is_changed
invariant-loop-is_changed l = record {
  size : length l.marks ≡ length l.fn.marks;
  on : MarksOn l.edges l.fn.marks l.marks;
  stable : l.is_changed ≡ false → AreStable l.edges l.marks;
}

use Rattle.std.proofs.Common.{◌≡◌}
use Rattle.lu_picture.specs.Shapes as spec
use Rattle.lu_picture.proofs.ends.end_of.Given as goal

abbrev pub invariant-loop-mark : goal.invariant-loop-mark
invariant-loop-mark l = l.found ≡ spec.end_of l.t l.k l.marks l.mark-index

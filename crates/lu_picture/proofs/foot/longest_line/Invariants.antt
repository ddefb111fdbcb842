use Rattle.std.proofs.Common.{◌≡◌}
use Rattle.std.specs.Option.{option_copied}
use Rattle.lu_picture.specs.Shapes as spec
use Rattle.lu_picture.proofs.foot.longest_line.Given as goal

abbrev pub invariant-loop-mark : goal.invariant-loop-mark
invariant-loop-mark l = l.longest ≡ spec.longest_line l.machine l.marks (option_copied l.explanation) l.mark-index

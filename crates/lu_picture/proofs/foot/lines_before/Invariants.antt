use Rattle.std.proofs.Common.{◌≡◌, ◌≤◌}
use Rattle.std.specs.Option.{option_copied}
use Rattle.lu_picture.specs.Shapes as spec
use Rattle.lu_picture.proofs.foot.lines_before.Given as goal

abbrev pub invariant-loop-u : goal.invariant-loop-u
invariant-loop-u l =
    (l.lines ≡ spec.lines_before (option_copied l.explanation) l.u) × (l.lines ≤ l.u)

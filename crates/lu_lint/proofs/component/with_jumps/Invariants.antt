use Rattle.std.proofs.Common.{◌≡◌, ◌++◌, take}
use Rattle.lu_lint.specs.Component.{jumps_said}
use Rattle.lu_lint.specs.Said.{said_of}
use Rattle.lu_lint.proofs.component.with_jumps.Given as goal

abbrev pub invariant-loop-back : goal.invariant-loop-back
invariant-loop-back over l = said_of l.all.items ≡ said_of l.initial.all.items ++ jumps_said l.at l.kind (take l.back-index l.backs)

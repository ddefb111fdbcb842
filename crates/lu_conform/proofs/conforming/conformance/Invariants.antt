use Rattle.std.specs.Prelude.{take}
use Rattle.std.specs.List.{AllZip}
use Rattle.lu_conform.specs.Showing.{IsShortest}
use Rattle.lu_conform.proofs.conforming.conformance.Given as goal

abbrev pub invariant-loop-number : goal.invariant-loop-number
invariant-loop-number l = AllZip (IsShortest l.component l.matrix) (take l.number l.all) l.schedules.items

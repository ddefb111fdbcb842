use Rattle.std.proofs.Common.{take}
use Rattle.std.specs.List.{AllZip}
use Rattle.lu_survey.specs.Comparing.{IsAlike}
use Rattle.lu_survey.proofs.operations.have_same_operations.Given as goal

abbrev pub invariant-loop-number : goal.invariant-loop-number
invariant-loop-number l = AllZip IsAlike (take l.number l.ops) (take l.number l.others)

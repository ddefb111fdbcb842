use Rattle.std.specs.Prelude.{take}
use Rattle.lu_run.specs.Verdicts.{AllPass}
use Rattle.lu_run.proofs.verdicts.first_failing.Given as goal

abbrev pub invariant-loop-number : goal.invariant-loop-number
invariant-loop-number l = AllPass l.component l.matrix l.bound (take l.number l.runs)

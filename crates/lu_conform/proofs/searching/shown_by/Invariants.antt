use Rattle.std.proofs.Common.{◌≡◌}
use Rattle.lu_conform.proofs.Visiting.{KnownTo}
use Rattle.lu_conform.proofs.searching.shown_by.Given as goal

abbrev pub invariant-loop-at : goal.invariant-loop-at
invariant-loop-at l = record {
  component : l.machine.component ≡ l.component;
  matrix_is : l.machine.matrix ≡ l.matrix;
  known : KnownTo l.component l.matrix l.recorded l.stages.entries l.at;
}

use Rattle.std.proofs.Common.{◌≡◌, ◌-◌, ◌≤◌}
use Rattle.lu_answers.proofs.Filled.{AreFilled}
use Rattle.lu_answers.proofs.finding.make_table.Given as goal

abbrev pub invariant-loop-index : goal.invariant-loop-index
invariant-loop-index l = record {
  component : l.machine.component ≡ l.component;
  matrix : l.machine.matrix ≡ l.matrix;
  few : l.index ≤ l.most;
  filled : AreFilled l.component l.rounds l.matrix l.bound l.initial.machine l.index l.stages.keys l.rows.items;
}

abbrev pub decreases-loop-index : goal.decreases-loop-index
decreases-loop-index l = l.most - l.index

use Rattle.std.proofs.Common.{◌≡◌}
use Rattle.lu_answers.proofs.Filled.{IsRowBefore}
use Rattle.lu_answers.proofs.finding.row_of.Given as goal

abbrev pub invariant-loop-thread : goal.invariant-loop-thread
invariant-loop-thread l = record {
  component : l.machine.component ≡ l.fn.machine.component;
  matrix : l.machine.matrix ≡ l.fn.machine.matrix;
  row : IsRowBefore l.fn.machine.component l.rounds l.fn.machine.matrix l.bound l.fn.stages.keys l.index l.stages.keys l.row l.thread;
}

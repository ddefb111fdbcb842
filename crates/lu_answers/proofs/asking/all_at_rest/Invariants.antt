use Rattle.std.proofs.Common.{◌≡◌, take}
use Rattle.lu_answers.proofs.Resting.{AreRested}
use Rattle.lu_answers.proofs.asking.all_at_rest.Given as goal

abbrev pub invariant-loop-position : goal.invariant-loop-position
invariant-loop-position l = record {
  component : l.machine.component ≡ l.fn.machine.component;
  matrix : l.machine.matrix ≡ l.fn.machine.matrix;
  rests : AreRested l.fn.machine.component l.fn.machine.matrix l.threads (take l.position-index l.positions) l.rests.items;
}

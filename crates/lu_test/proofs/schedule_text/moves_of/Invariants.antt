use Rattle.std.proofs.Common.{◌≡◌, ◌≤◌, length, drop}
use Rattle.lu_text.specs.Lines.{texts}
use Rattle.lu_test.specs.ScheduleText.{moves_of}
use Rattle.lu_test.proofs.Loop.{with_front}
use Rattle.lu_test.proofs.schedule_text.moves_of.Given as goal

abbrev pub invariant-loop-word : goal.invariant-loop-word
invariant-loop-word l = record {
  few : length l.moves.items ≤ 4112;
  told : with_front l.moves.items (moves_of (length l.moves.items) (drop l.word-index (texts l.words))) ≡ moves_of 0 (texts l.words);
}

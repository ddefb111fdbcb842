use Rattle.std.proofs.Common.{◌≡◌, ◌≤◌, true, drop}
use Rattle.std.specs.Str.{all_ascii_digits}
use Rattle.lu_text.specs.Numbers.{read_on}
use Rattle.lu_text.proofs.number.number_up_to.Given as goal

abbrev pub invariant-loop-digit : goal.invariant-loop-digit
invariant-loop-digit l = record {
  small : l.number ≤ l.most;
  digits : all_ascii_digits (drop l.digit-index l.word) ≡ true;
  value : read_on l.number (drop l.digit-index l.word) ≡ read_on 0 l.word;
}

use Rattle.std.proofs.Common.{◌≡◌, ◌++◌, drop, take}
use Rattle.std.specs.Prelude.{All}
use Rattle.std.specs.Str.{IsUtf8}
use Rattle.lu_text.specs.Lines.{texts}
use Rattle.lineup_c.proofs.answering.strings_of.Given as goal

abbrev pub invariant-loop-word : goal.invariant-loop-word
invariant-loop-word l = record {
  read : texts l.strings.items ++ drop l.word-index (texts l.words) ≡ texts l.words;
  valid : All IsUtf8 (take l.word-index (texts l.words));
}

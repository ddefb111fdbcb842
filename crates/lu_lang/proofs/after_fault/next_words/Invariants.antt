use Rattle.std.proofs.Common.{◌≡◌, drop}
use Rattle.lu_text.specs.Lines.{texts}
use Rattle.lu_lang.specs.Mend.{next_words}
use Rattle.lu_lang.proofs.after_fault.next_words.Given as goal

abbrev pub invariant-loop-line : goal.invariant-loop-line
invariant-loop-line l = next_words (drop l.line-index (texts l.lines)) ≡ next_words (texts l.lines)

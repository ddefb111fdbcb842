use Rattle.std.proofs.Common.{◌≡◌, ◌++◌, drop}
use Rattle.lu_text.specs.Lines.{texts}
use Rattle.lu_source_lint.specs.Faults as spec
use Rattle.lu_source_lint.proofs.meaning.spelled.Given as goal

abbrev pub invariant-loop-word : goal.invariant-loop-word
invariant-loop-word l = l.text.items ++ spec.spelled (drop l.word-index (texts l.words)) ≡ spec.spelled (texts l.words)

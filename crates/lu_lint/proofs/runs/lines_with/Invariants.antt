use Rattle.std.proofs.Common.{◌≡◌, ◌+◌, ◌++◌, drop}
use Rattle.lu_text.specs.Lines.{texts}
use Rattle.lu_lint.specs.Runs.{lines_from, lines_with}
use Rattle.lu_lint.proofs.runs.lines_with.Given as goal

abbrev pub invariant-loop-before : goal.invariant-loop-before
invariant-loop-before l = l.found.items ++ lines_from l.word (l.before + 1) (drop l.before (texts l.line-items)) ≡ lines_with l.word l.text

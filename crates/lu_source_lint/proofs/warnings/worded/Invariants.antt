use Rattle.std.proofs.Common.{◌≡◌, map, take}
use Rattle.lu_text.specs.Lines.{texts}
use Rattle.lu_source_text.specs.Grammar.{source_words}
use Rattle.lu_source_lint.specs.Warnings.{lines_in}
use Rattle.lu_source_lint.proofs.warnings.worded.Given as goal

abbrev pub invariant-loop-line : goal.invariant-loop-line
invariant-loop-line l = lines_in l.worded.items ≡ map source_words (texts (take l.line-index l.lines))

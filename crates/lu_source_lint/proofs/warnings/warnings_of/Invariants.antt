use Rattle.std.proofs.Common.{◌≡◌, ◌++◌, [], drop, take}
use Rattle.lu_text.specs.Lines.{texts}
use Rattle.lu_source_lint.specs.Warnings as spec
use Rattle.lu_source_lint.specs.Warnings.{lines_in}
use Rattle.lu_source_lint.proofs.warnings.warnings_of.Given as goal

abbrev pub invariant-loop-before : goal.invariant-loop-before
invariant-loop-before l = l.warnings.items ++ spec.warnings_from (texts l.shared.items) (lines_in (take l.before l.words-items)) (lines_in (drop l.before l.words-items)) ≡ spec.warnings_from (spec.shared_names (lines_in l.words-items)) [] (lines_in l.words-items)

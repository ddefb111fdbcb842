use Rattle.std.proofs.Common.{◌≡◌, drop}
use Rattle.lu_text.specs.Lines.{texts}
use Rattle.lu_source_lint.specs.Warnings as spec
use Rattle.lu_source_lint.specs.Warnings.{lines_in}
use Rattle.lu_source_lint.proofs.warnings.ends_without.Given as goal

abbrev pub invariant-loop-line : goal.invariant-loop-line
invariant-loop-line l = spec.ends_without (texts l.shared) l.sought l.depth (drop l.line-index (lines_in l.lines)) ≡ spec.ends_without (texts l.shared) l.sought 1 (lines_in l.lines)

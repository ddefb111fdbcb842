use Rattle.std.proofs.Common.{◌≡◌, drop}
use Rattle.lu_text.specs.Lines.{texts}
use Rattle.lu_cli.specs.Lint.{first_line}
use Rattle.lu_cli.proofs.lint.first_line.Given as goal

abbrev pub invariant-loop-line : goal.invariant-loop-line
invariant-loop-line l = first_line l.word l.number (drop l.line-index (texts l.lines)) ≡ first_line l.word l.above (texts l.lines)

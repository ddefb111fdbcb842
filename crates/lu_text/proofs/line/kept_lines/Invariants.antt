use Rattle.std.proofs.Common.{◌≡◌, ◌++◌, length}
use Rattle.lu_text.specs.Lines.{kept_lines, texts}
use Rattle.lu_text.proofs.line.kept_lines.Given as goal

abbrev pub invariant-loop-rest : goal.invariant-loop-rest
invariant-loop-rest l = texts l.lines.items ++ kept_lines l.rest ≡ kept_lines l.text

abbrev pub decreases-loop-rest : goal.decreases-loop-rest
decreases-loop-rest l = length l.rest

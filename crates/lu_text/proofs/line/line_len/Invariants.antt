use Rattle.std.proofs.Common.{◌≡◌, ◌+◌, drop}
use Rattle.lu_text.specs.Lines.{first_len}
use Rattle.lu_text.proofs.line.line_len.Given as goal

abbrev pub invariant-loop-i : goal.invariant-loop-i
invariant-loop-i l = first_len l.text ≡ l.i + first_len (drop l.i l.text)

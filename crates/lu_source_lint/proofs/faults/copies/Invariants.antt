use Rattle.std.proofs.Common.{◌≡◌, take}
use Rattle.lu_source_lint.specs.Faults.{bytes_of}
use Rattle.lu_source_lint.proofs.faults.copies.Given as goal

abbrev pub invariant-loop-line : goal.invariant-loop-line
invariant-loop-line l = bytes_of l.copies.items ≡ bytes_of (take l.line-index l.lines)

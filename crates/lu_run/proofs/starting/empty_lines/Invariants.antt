use Rattle.std.proofs.Common.{◌≡◌, [], replicate}
use Rattle.lu_run.proofs.starting.empty_lines.Given as goal

abbrev pub invariant-loop-line : goal.invariant-loop-line
invariant-loop-line l = l.lines.items ≡ replicate l._line []

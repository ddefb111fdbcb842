use Rattle.std.proofs.Common.{◌≡◌, ◌++◌}
use Rattle.lineup_c.specs.Numbers.{zeros}
use Rattle.lineup_c.proofs.numbers.push_zeros.Given as goal

abbrev pub invariant-loop-zero : goal.invariant-loop-zero
invariant-loop-zero l = l.numbers.items ≡ l.initial.numbers.items ++ zeros l._zero

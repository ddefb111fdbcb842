use Rattle.std.proofs.Common.{◌≡◌, ◌++◌}
use Rattle.lineup_c.specs.Numbers.{registers}
use Rattle.lineup_c.proofs.numbers.push_registers.Given as goal

abbrev pub invariant-loop-register : goal.invariant-loop-register
invariant-loop-register l = l.numbers.items ≡ l.initial.numbers.items ++ registers l.frame l.register

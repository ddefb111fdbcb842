use Rattle.std.proofs.Common.{◌≡◌, ◌++◌}
use Rattle.lineup_c.specs.Numbers.{locks_numbers}
use Rattle.lineup_c.proofs.numbers.push_locks.Given as goal

abbrev pub invariant-loop-lock : goal.invariant-loop-lock
invariant-loop-lock l = l.numbers.items ≡ l.initial.numbers.items ++ locks_numbers l.machine l.lock

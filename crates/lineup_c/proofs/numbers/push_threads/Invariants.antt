use Rattle.std.proofs.Common.{◌≡◌, ◌++◌}
use Rattle.lineup_c.specs.Numbers.{threads_numbers}
use Rattle.lineup_c.proofs.numbers.push_threads.Given as goal

abbrev pub invariant-loop-t : goal.invariant-loop-t
invariant-loop-t l = l.numbers.items ≡ l.initial.numbers.items ++ threads_numbers l.machine l.t

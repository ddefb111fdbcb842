use Rattle.std.proofs.Common.{◌≡◌, ◌++◌}
use Rattle.lineup_c.specs.Numbers.{arrays_numbers}
use Rattle.lineup_c.proofs.numbers.push_arrays.Given as goal

abbrev pub invariant-loop-array : goal.invariant-loop-array
invariant-loop-array l = l.numbers.items ≡ l.initial.numbers.items ++ arrays_numbers l.machine l.array

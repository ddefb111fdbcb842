use Rattle.std.proofs.Common.{◌≡◌, ◌++◌}
use Rattle.lineup_c.specs.Numbers.{cells_numbers}
use Rattle.lineup_c.proofs.numbers.push_cells.Given as goal

abbrev pub invariant-loop-index : goal.invariant-loop-index
invariant-loop-index l = l.numbers.items ≡ l.initial.numbers.items ++ cells_numbers l.machine l.array l.index

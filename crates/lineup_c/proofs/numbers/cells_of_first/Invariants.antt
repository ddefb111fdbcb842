use Rattle.std.proofs.Common.{◌≡◌}
use Rattle.lineup_c.specs.Numbers.{cells_of_first}
use Rattle.lineup_c.proofs.numbers.cells_of_first.Given as goal

abbrev pub invariant-loop-array : goal.invariant-loop-array
invariant-loop-array l = l.cells ≡ cells_of_first l.component l.array

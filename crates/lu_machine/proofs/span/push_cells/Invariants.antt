use Rattle.std.proofs.Common.{◌≡◌, ◌++◌, replicate}
use Rattle.lu_machine.proofs.span.push_cells.Given as goal

abbrev pub invariant-loop-cell : goal.invariant-loop-cell
invariant-loop-cell l = l.cells.items ≡ l.initial.cells.items ++ replicate l._cell l.array.init

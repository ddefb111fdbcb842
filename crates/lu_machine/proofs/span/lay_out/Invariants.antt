use Rattle.lu_machine.proofs.Layouts.{AreLaid}
use Rattle.lu_machine.proofs.span.lay_out.Given as goal

abbrev pub invariant-loop-array : goal.invariant-loop-array
invariant-loop-array l = AreLaid l.arrays l.array-index l.spans.items l.cells.items

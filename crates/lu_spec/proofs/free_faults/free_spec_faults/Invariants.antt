use Rattle.std.specs.Prelude.{◌+◌, drop}
use Rattle.lu_text.specs.Lines.{texts}
use Rattle.lu_spec.proofs.FreeFaultLines.{AreToldTo}
use Rattle.lu_spec.proofs.free_faults.free_spec_faults.Given as goal

abbrev pub invariant-loop-index : goal.invariant-loop-index
invariant-loop-index l = AreToldTo l.matrix l.text l.draft l.faults.items (l.index + 1) (drop l.index (texts l.line-items))

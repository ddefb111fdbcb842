use Rattle.std.specs.Prelude.{◌+◌, drop}
use Rattle.lu_text.specs.Lines.{texts}
use Rattle.lu_spec.proofs.Collected.{AreCollectedTo}
use Rattle.lu_spec.proofs.collecting.collect_spec.Given as goal

abbrev pub invariant-loop-index : goal.invariant-loop-index
invariant-loop-index l = AreCollectedTo l.matrix l.text l.draft.set l.draft.begun (l.index + 1) (drop l.index (texts l.line-items))

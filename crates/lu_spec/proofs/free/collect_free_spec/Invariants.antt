use Rattle.std.specs.Prelude.{◌+◌, drop}
use Rattle.lu_text.specs.Lines.{texts}
use Rattle.lu_spec.proofs.FreeLines.{AreFreeTo}
use Rattle.lu_spec.proofs.free.collect_free_spec.Given as goal

abbrev pub invariant-loop-index : goal.invariant-loop-index
invariant-loop-index l = AreFreeTo l.matrix l.text l.draft (l.index + 1) (drop l.index (texts l.line-items))

use Rattle.std.proofs.Common.{◌≡◌, drop}
use Rattle.lu_text.specs.Lines.{texts}
use Rattle.lu_source_text.specs.Begins as spec
use Rattle.lu_source_text.proofs.begins.is_source.Given as goal

abbrev pub invariant-loop-line : goal.invariant-loop-line
invariant-loop-line l =
    spec.begins_source (drop l.line-index (texts l.line-items)) ≡ spec.is_source l.text

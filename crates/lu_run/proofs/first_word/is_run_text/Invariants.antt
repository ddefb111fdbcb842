use Rattle.std.proofs.Common.{◌≡◌, drop}
use Rattle.lu_text.specs.Lines.{texts}
use Rattle.lu_run.specs.Beginnings as spec
use Rattle.lu_run.proofs.first_word.is_run_text.Given as goal

abbrev pub invariant-loop-line : goal.invariant-loop-line
invariant-loop-line l =
    spec.begins_run (drop l.line-index (texts l.line-items)) ≡ spec.is_run_text l.text

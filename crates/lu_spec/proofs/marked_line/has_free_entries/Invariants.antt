use Rattle.std.specs.Prelude.{◌≡◌, false, take}
use Rattle.std.specs.List.{list_any}
use Rattle.lu_text.specs.Lines.{texts}
use Rattle.lu_spec.specs.FreeSpecs.{has_mark}
use Rattle.lu_spec.proofs.marked_line.has_free_entries.Given as goal

abbrev pub invariant-loop-line : goal.invariant-loop-line
invariant-loop-line l = list_any has_mark (take l.line-index (texts l.line-items)) ≡ false

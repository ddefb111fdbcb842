use Rattle.std.specs.Prelude.{◌≡◌, false, take}
use Rattle.std.specs.List.{list_any}
use Rattle.lu_text.specs.Lines.{texts}
use Rattle.lu_spec.specs.FreeSpecs.{ends_marked}
use Rattle.lu_spec.proofs.marked_line.have_mark.Given as goal

abbrev pub invariant-loop-word : goal.invariant-loop-word
invariant-loop-word l = list_any ends_marked (take l.word-index (texts l.words)) ≡ false

use Rattle.std.proofs.Common.{◌≡◌, drop}
use Rattle.lu_text.specs.Lines.{texts}
use Rattle.lu_lang.specs.Labels.{label_on, marked_after, nothing_marked}
use Rattle.lu_lang.proofs.labels.marked_after.Given as goal

abbrev pub invariant-loop-line : goal.invariant-loop-line
invariant-loop-line l = marked_after label_on l.marked (drop l.line-index (texts l.lines)) ≡ marked_after label_on nothing_marked (texts l.lines)

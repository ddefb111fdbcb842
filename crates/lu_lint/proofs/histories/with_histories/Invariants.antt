use Rattle.std.proofs.Common.{◌≡◌, ◌++◌, drop}
use Rattle.lu_text.specs.Lines.{texts}
use Rattle.lu_lint.specs.Said.{said_of}
use Rattle.lu_lint.specs.Parts.{histories_said}
use Rattle.lu_lint.proofs.histories.with_histories.Given as goal

abbrev pub invariant-loop-text : goal.invariant-loop-text
invariant-loop-text over l = said_of l.all.items ++ histories_said l.matrix l.above (drop l.text-index (texts l.parts)) ≡ said_of l.initial.all.items ++ histories_said l.matrix l.initial.above (texts l.parts)

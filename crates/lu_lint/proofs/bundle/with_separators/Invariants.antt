use Rattle.std.proofs.Common.{◌≡◌, ◌+◌, ◌++◌, drop}
use Rattle.lu_text.specs.Lines.{texts}
use Rattle.lu_lint.specs.Bundle.{separators_from}
use Rattle.lu_lint.specs.Said.{said_of}
use Rattle.lu_lint.proofs.bundle.with_separators.Given as goal

abbrev pub invariant-loop-before : goal.invariant-loop-before
invariant-loop-before over l = said_of l.all.items ++ separators_from (l.before + 1) (drop l.before (texts l.lines)) ≡ said_of l.initial.all.items ++ separators_from 1 (texts l.lines)

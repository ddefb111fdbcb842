use Rattle.std.proofs.Common.{◌+◌, drop}
use Rattle.lu_text.specs.Lines.{texts}
use Rattle.lu_lint.specs.Said.{said_of}
use Rattle.lu_lint.proofs.ReadingOn.{SoFar}
use Rattle.lu_lint.proofs.component.read_lines.Given as goal

abbrev pub invariant-loop-before : goal.invariant-loop-before
invariant-loop-before over l = SoFar l.reading (l.before + 1) (drop l.before (texts l.lines)) (texts l.lines) (said_of l.fn.all.items)

use Rattle.std.proofs.Common.{◌≡◌, ◌+◌, ◌++◌, drop}
use Rattle.lu_text.specs.Faults.{meaning_of_lines}
use Rattle.lu_text.specs.Lines.{texts}
use Rattle.lu_test.specs.MatrixText.{HasRoom, grammar_by}
use Rattle.lu_lint.specs.Matrix.{FitsBy, matrix_lint}
use Rattle.lu_lint.specs.Lint.{faults_after}
use Rattle.lu_lint.specs.Said.{said_faults, said_of, said_of_lines}
use Rattle.lu_lint.specs.declared.remark.FaultKind.TheVariants as part
use Rattle.lu_lint.proofs.WhileSound.{Reads}
use Rattle.lu_lint.proofs.matrix.read_lines.Given as goal

abbrev pub invariant-loop-before : goal.invariant-loop-before
invariant-loop-before over l = record {
  room : HasRoom l.draft;
  fits : FitsBy l.signatures l.draft;
  said : said_of l.all.items ++ said_faults part.Matrix l.above (faults_after (matrix_lint l.signatures) l.seen.items (l.before + 1) l.draft (drop l.before (texts l.lines))) ≡ said_of l.initial.all.items ++ said_of_lines (matrix_lint l.signatures) l.above (texts l.lines);
  read : Reads (grammar_by l.signatures) l.sound (l.before + 1) l.draft (drop l.before (texts l.lines)) (meaning_of_lines (grammar_by l.signatures) (texts l.lines));
}

use Rattle.std.proofs.Common.{◌≡◌, ◌+◌, drop}
use Rattle.lu_text.specs.Lines.{texts}
use Rattle.lu_text.specs.Faults.{lines_after}
use Rattle.lu_test.specs.Matrix.{IsOf}
use Rattle.lu_test.specs.MatrixText.{IsDraft, matrix_of, nothing}
use Rattle.lu_run.specs.Setups.{setup_grammar}
use Rattle.lu_run.proofs.setup.read_lines.Given as goal

abbrev pub invariant-loop-before : goal.invariant-loop-before
invariant-loop-before l = record {
  limits : IsDraft l.draft;
  fits : IsOf (matrix_of l.draft) l.component;
  read : lines_after (setup_grammar l.component) (l.before + 1) l.draft (drop l.before (texts l.lines)) ≡ lines_after (setup_grammar l.component) 1 nothing (texts l.lines);
}

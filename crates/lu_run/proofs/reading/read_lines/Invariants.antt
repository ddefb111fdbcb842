use Rattle.std.proofs.Common.{◌≡◌, ◌+◌, drop}
use Rattle.std.specs.Prelude.{None}
use Rattle.lu_text.specs.Lines.{texts}
use Rattle.lu_text.specs.Faults.{lines_after}
use Rattle.lu_run.specs.Reading.{IsSoundIf, seen_if}
use Rattle.lu_run.specs.RunText.{run_grammar}
use Rattle.lu_run.proofs.reading.read_lines.Given as goal

abbrev pub invariant-loop-before : goal.invariant-loop-before
invariant-loop-before l = record {
  sound : IsSoundIf l.component l.draft;
  said : lines_after (run_grammar l.component) (l.before + 1) (seen_if l.draft) (drop l.before (texts l.lines)) ≡ lines_after (run_grammar l.component) 1 None (texts l.lines);
}

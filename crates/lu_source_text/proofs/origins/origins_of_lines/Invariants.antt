use Rattle.std.proofs.Common.{◌≡◌, ℕ, ◌+◌, drop}
use Rattle.std.specs.List.{slice_get}
use Rattle.lu_text.specs.Lines.{texts}
use Rattle.lu_text.specs.Faults.{lines_after}
use Rattle.lu_source_text.specs.Drafts.{drafted_of}
use Rattle.lu_source_text.specs.Grammar.{either, nothing, source_grammar}
use Rattle.lu_source_text.specs.Origins.{after_lines, entries_at, origin_from}
use Rattle.lu_source_text.proofs.Drafts.{IsDraft}
use Rattle.lu_source_text.proofs.origins.origins_of_lines.Given as goal

abbrev pub invariant-loop-before : goal.invariant-loop-before
invariant-loop-before l = record {
  read : lines_after source_grammar (l.before + 1) (drafted_of l.draft) (drop l.before (texts l.lines)) ≡ lines_after source_grammar 1 nothing (texts l.lines);
  origins : (o p : ℕ) → either (slice_get (entries_at l.operations.items o) p) (origin_from (l.before + 1) (drafted_of l.draft) (drop l.before (texts l.lines)) o p) ≡ origin_from 1 nothing (texts l.lines) o p;
  drafts : after_lines (drafted_of l.draft) (drop l.before (texts l.lines)) ≡ after_lines nothing (texts l.lines);
  sound : IsDraft (drafted_of l.draft);
}

use Rattle.std.proofs.Common.{◌≡◌, ◌+◌, drop}
use Rattle.lu_text.specs.Lines.{texts}
use Rattle.lu_text.specs.Faults.{lines_after}
use Rattle.lu_lang.specs.Draft.{nothing}
use Rattle.lu_lang.specs.Grammar.{component_grammar}
use Rattle.lu_lang.specs.Sound.{IsSoundDraft}
use Rattle.lu_lang.proofs.reading.read_lines.Given as goal

abbrev pub invariant-loop-before : goal.invariant-loop-before
invariant-loop-before l = record {
  sound : IsSoundDraft l.draft;
  read : lines_after component_grammar (l.before + 1) l.draft (drop l.before (texts l.lines)) ≡ lines_after component_grammar 1 nothing (texts l.lines);
}

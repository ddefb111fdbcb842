use Rattle.std.proofs.Common.{◌≡◌, ◌+◌, drop}
use Rattle.lu_text.specs.Lines.{texts}
use Rattle.lu_text.specs.Faults.{lines_after}
use Rattle.lu_source_text.specs.Drafts.{drafted_of}
use Rattle.lu_source_text.specs.Grammar.{nothing, source_grammar}
use Rattle.lu_source_text.proofs.reading.read_source_lines.Given as goal

abbrev pub invariant-loop-before : goal.invariant-loop-before
invariant-loop-before l =
    lines_after source_grammar (l.before + 1) (drafted_of l.draft) (drop l.before (texts l.lines)) ≡ lines_after source_grammar 1 nothing (texts l.lines)

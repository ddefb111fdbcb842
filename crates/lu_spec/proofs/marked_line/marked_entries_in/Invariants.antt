use Rattle.lu_text.specs.Lines.{texts}
use Rattle.lu_spec.proofs.MarkedWords.{AreReadTo}
use Rattle.lu_spec.proofs.marked_line.marked_entries_in.Given as goal

abbrev pub invariant-loop-word : goal.invariant-loop-word
invariant-loop-word l = AreReadTo (texts l.words) l.word-index l.entries.items

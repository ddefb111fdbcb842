use Rattle.lu_text.specs.Lines.{texts}
use Rattle.lu_spec.proofs.EntryLists.{AreReadTo}
use Rattle.lu_spec.proofs.history_line.entries_in.Given as goal

abbrev pub invariant-loop-word : goal.invariant-loop-word
invariant-loop-word l = AreReadTo (texts l.words) l.word-index l.entries.items

use Rattle.lu_lint.proofs.ReadingOn.{both_read}
use Rattle.lu_lint.proofs.component.read_line.Goals as goal

pub returns : goal.returns
returns over c = both_read c.args.reading c.in_ok-reading.reading c.args.line c.args.text.now _ _ c.read_words.result c.in_ok-words.ensures (rw c.deref.ensures.value at c.in_ok-reading.ensures) (rw c.deref-2.ensures.value at c.read_words.ensures)

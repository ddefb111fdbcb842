use Rattle.std.proofs.Common.{arith}
use Rattle.lu_text.proofs.Reading.{text_more}
use Rattle.lu_lang.proofs.labels.marked_after.Goals as goal

pub loop-line-preserved : goal.loop-line-preserved
loop-line-preserved c =
    let step = text_more c.args.lines.now c.loop-line.line-index _ (omega arith) in
    let so_far = rw step at c.loop-line.invariant in
    rw (c.in_ok-marked.ensures, c.deref.ensures.value, c.in_ok-words.ensures) so_far

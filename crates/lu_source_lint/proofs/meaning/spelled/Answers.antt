use Rattle.lu_text.proofs.Reading.{text_more}
use Rattle.lu_source_lint.proofs.Reported.{spelled_more}
use Rattle.lu_source_lint.proofs.meaning.spelled.Goals as goal

pub loop-word-preserved : goal.loop-word-preserved
loop-word-preserved c =
    let step = text_more c.args.words.now c.loop-word.word-index _ c.loop-word-test.true in
    spelled_more c.loop-word.text.items _ c.push.new.self.items _ _ _ c.in_ok-extend_from_slice.ensures.items c.in_ok-push.ensures.items (rw step at c.loop-word.invariant)

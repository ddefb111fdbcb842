use Rattle.lu_spec.proofs.MarkedWords.{not_read, one_read}
use Rattle.lu_spec.proofs.marked_line.marked_entries_in.Goals as goal

pub returns-in-None-clause-none : goal.returns-in-None-clause-none
returns-in-None-clause-none c = not_read c.args.words.now c.loop-word.word-index _ c.loop-word-test.true c.in-None.ensures.none

pub loop-word-preserved : goal.loop-word-preserved
loop-word-preserved c =
    let said = c.in-Some.ensures.some in
    one_read c.args.words.now c.loop-word.word-index _ c.loop-word.entries.items c.push.new.self.items c.in-Some.entry c.loop-word-test.true c.loop-word.invariant said.0 said.1 c.in_ok-push-in-Some.ensures.items

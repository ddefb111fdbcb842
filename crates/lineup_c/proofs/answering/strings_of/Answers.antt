use Rattle.std.proofs.Common.{[], refl}
use Rattle.lineup_c.proofs.Strings.{ends, goes_on, not_all, valid_all, valid_more}
use Rattle.lineup_c.proofs.answering.strings_of.Goals as goal

pub returns-in-Err : goal.returns-in-Err
returns-in-Err c = not_all c.args.words.now c.loop-word.word-index (record { ref_ptr = (0, 0); now = [] }) c.loop-word-test.true c.in-Err.ensures.cases.0

pub loop-word-preserved : goal.loop-word-preserved
loop-word-preserved c = record {
  read = rw c.in_ok-push-in-Ok.ensures.items
      (goes_on c.args.words.now c.loop-word.word-index (record { ref_ptr = (0, 0); now = [] }) c.in-Ok.string c.loop-word.strings.items c.loop-word-test.true c.in-Ok.ensures.cases.0 c.loop-word.invariant.read);
  valid = valid_more c.args.words.now c.loop-word.word-index (record { ref_ptr = (0, 0); now = [] }) c.loop-word-test.true c.in-Ok.ensures.cases.1 c.loop-word.invariant.valid;
}

pub returns : goal.returns
returns c = (
  ends c.args.words.now c.loop-word.word-index c.loop-word.strings.items c.loop-word-test.false c.loop-word.invariant.read,
  valid_all c.args.words.now c.loop-word.word-index c.loop-word-test.false c.loop-word.invariant.valid,
)

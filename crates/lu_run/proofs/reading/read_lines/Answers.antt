use Rattle.std.proofs.Common.{◌+◌, arith, length}
use Rattle.std.proofs.lemmas.Result.{err_from_is_err_and}
use Rattle.lu_text.proofs.Reading.{goes_on, ends, is_done, text_more, texts_end}
use Rattle.lu_run.specs.Reading.{seen_if}
use Rattle.lu_run.specs.RunText.{run_grammar, said_by}
use Rattle.lu_run.proofs.reading.read_lines.Goals as goal

pub returns-in_err-draft-clause-said : goal.returns-in_err-draft-clause-said
returns-in_err-draft-clause-said c =
    let p = err_from_is_err_and c.from_residual.result c.from_residual.ensures.1 in
    let step = text_more c.args.lines.now c.loop-before.before _ (omega arith) in
    rw (p.1, p.2) (ends (run_grammar c.args.component.now) c.in_err-draft.field-0.0 _ _ _ _ _ c.in_err-draft.ensures.said (rw step at c.loop-before.invariant.said))

pub loop-before-preserved : goal.loop-before-preserved
loop-before-preserved c =
    let step = text_more c.args.lines.now c.loop-before.before _ (omega arith) in
    record {
      sound = c.in_ok-draft.ensures.sound;
      said = goes_on (run_grammar c.args.component.now) _ _ _ _ _ _ c.in_ok-draft.ensures.said (rw step at c.loop-before.invariant.said);
    }

pub returns-clause-said : goal.returns-clause-said
returns-clause-said c = is_done (run_grammar c.args.component.now) (c.loop-before.before + 1) (length c.args.lines.now + 1) (seen_if c.loop-before.draft) (said_by c.finish.result) _ (omega arith) c.finish.ensures.said (rw (texts_end c.args.lines.now c.loop-before.before (omega arith)) at c.loop-before.invariant.said)

pub returns-clause-run : goal.returns-clause-run
returns-clause-run c = c.finish.ensures.run c.args.component.now c.loop-before.invariant.sound

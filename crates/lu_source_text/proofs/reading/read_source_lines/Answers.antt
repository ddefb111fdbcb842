use Rattle.std.proofs.Common.{refl, arith}
use Rattle.std.proofs.lemmas.Result.{err_from_is_err_and}
use Rattle.lu_text.proofs.Reading.{goes_on, ends, is_done, text_more, texts_end}
use Rattle.lu_source_text.specs.Drafts.{drafted_of}
use Rattle.lu_source_text.specs.Grammar.{source_grammar}
use Rattle.lu_source_text.proofs.reading.read_source_lines.Goals as goal

pub loop-before-init : goal.loop-before-init
loop-before-init c = rw c.new_draft-draft.ensures refl

pub returns-in_err-take_line : goal.returns-in_err-take_line
returns-in_err-take_line c =
    let p = err_from_is_err_and c.from_residual.result c.from_residual.ensures.1 in
    let step = text_more c.args.lines.now c.loop-before.before _ (omega arith) in
    rw (p.1, p.2) (ends source_grammar c.in_err-take_line.field-0.0 _ _ _ _ _ c.in_err-take_line.ensures (rw step at c.loop-before.invariant))

pub loop-before-preserved : goal.loop-before-preserved
loop-before-preserved c =
    let step = text_more c.args.lines.now c.loop-before.before _ (omega arith) in
    goes_on source_grammar _ _ _ _ _ _ c.in_ok-take_line.ensures (rw step at c.loop-before.invariant)

pub returns : goal.returns
returns c = is_done source_grammar _ _ (drafted_of c.loop-before.draft) _ _ (omega arith) c.finish.ensures (rw (texts_end c.args.lines.now c.loop-before.before (omega arith)) at c.loop-before.invariant)

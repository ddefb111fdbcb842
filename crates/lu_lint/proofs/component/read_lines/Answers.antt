use Rattle.std.proofs.Common.{◌+◌, ◌∙◌, ap, refl, arith}
use Rattle.lu_text.specs.Lines.{texts}
use Rattle.lu_text.proofs.Reading.{text_more, texts_end}
use Rattle.lu_lint.proofs.Going.{texts_after}
use Rattle.lu_lint.proofs.ReadingOn.{are_linted, so_far_none, so_far_on}
use Rattle.lu_lint.proofs.component.read_lines.Goals as goal

pub loop-before-init : goal.loop-before-init
loop-before-init over c = so_far_none _ (texts c.args.lines.now) c.new.ensures refl c.new-3.ensures.items c.new-2.ensures.items

pub loop-before-preserved : goal.loop-before-preserved
loop-before-preserved over c =
    let step = text_more c.args.lines.now c.loop-before.before _ (omega arith) in
    let after = ap texts c.split_at.ensures.back ∙ texts_after c.args.lines.now (c.loop-before.before + 1) in
    so_far_on c.loop-before.reading c.in_ok-reading.reading (c.loop-before.before + 1) _ _ _ _ _ after c.in_ok-reading.ensures (rw step at c.loop-before.invariant)

pub read_end-requires : goal.read_end-requires
read_end-requires over c = c.loop-before.invariant.rules

pub returns : goal.returns
returns over c =
    let past = texts_end c.args.lines.now c.loop-before.before (omega arith) in
    are_linted c.loop-before.reading (c.loop-before.before + 1) _ (texts c.args.lines.now) c.args.all c.read_end.result (omega arith) (rw past at c.loop-before.invariant) c.read_end.ensures

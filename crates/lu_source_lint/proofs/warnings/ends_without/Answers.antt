use Rattle.std.proofs.Common.{◌+◌, ◌∙◌, drop, sym}
use Rattle.lu_text.specs.Lines.{texts}
use Rattle.lu_source_lint.specs.Warnings.{lines_in}
use Rattle.lu_source_lint.proofs.Found.{ends_here, ends_on, ends_stops, lines_more}
use Rattle.lu_source_lint.proofs.warnings.ends_without.Goals as goal

pub returns-then-stops : goal.returns-then-stops
returns-then-stops c =
    let step = lines_more c.args.lines.now c.loop-line.line-index c.line-item.result c.as_slice-words.result.now c.loop-line-test.true c.line-item.is c.as_slice-words.ensures.value in
    ends_stops (texts c.args.shared.now) c.args.sought c.loop-line.depth (texts c.as_slice-words.result.now) (drop (c.loop-line.line-index + 1) (lines_in c.args.lines.now)) _ (sym c.stops.ensures.stops ∙ c.if-stops.true) (rw step at c.loop-line.invariant)

pub returns-then-depth-eq0 : goal.returns-then-depth-eq0
returns-then-depth-eq0 c =
    let step = lines_more c.args.lines.now c.loop-line.line-index c.line-item.result c.as_slice-words.result.now c.loop-line-test.true c.line-item.is c.as_slice-words.ensures.value in
    ends_here (texts c.args.shared.now) c.args.sought c.loop-line.depth c.depth_after-depth.result (texts c.as_slice-words.result.now) (drop (c.loop-line.line-index + 1) (lines_in c.args.lines.now)) _ (sym c.stops.ensures.stops ∙ c.if-stops.false) c.depth_after-depth.ensures c.if-depth-eq0.true (rw step at c.loop-line.invariant)

pub loop-line-preserved : goal.loop-line-preserved
loop-line-preserved c =
    let step = lines_more c.args.lines.now c.loop-line.line-index c.line-item.result c.as_slice-words.result.now c.loop-line-test.true c.line-item.is c.as_slice-words.ensures.value in
    ends_on (texts c.args.shared.now) c.args.sought c.loop-line.depth c.depth_after-depth.result (texts c.as_slice-words.result.now) (drop (c.loop-line.line-index + 1) (lines_in c.args.lines.now)) _ (sym c.stops.ensures.stops ∙ c.if-stops.false) c.depth_after-depth.ensures c.if-depth-eq0.false (rw step at c.loop-line.invariant)

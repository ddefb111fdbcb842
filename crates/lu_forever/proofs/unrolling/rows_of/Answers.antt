use Rattle.std.proofs.Common.{◌≡◌, ◌∙◌, Some, slice_get, ap, sym}
use Rattle.std.proofs.lemmas.Option.{slice_get-get_or}
use Rattle.lu_forever.proofs.UnrolledRows.{all_rows, next_row}
use Rattle.lu_forever.proofs.unrolling.rows_of.Goals as goal

pub loop-t-preserved : goal.loop-t-preserved
loop-t-preserved c =
    let lines = c.args.lines.now in
    let line = c.index-lines-t.result in
    let there : slice_get lines c.loop-t.t ≡ Some line = slice_get-get_or lines c.loop-t.t line c.loop-t-test.true ∙ ap (λ x. Some x) (sym c.index-lines-t.is) in
    rw (c.in_ok-push.ensures.items, c.loop-t.invariant, c.in_ok-row.ensures, c.as_slice.ensures, c.count_at.ensures)
    (next_row c.args.counts.now lines c.loop-t.t line there)

pub returns : goal.returns
returns c = c.loop-t.invariant ∙ all_rows c.args.counts.now c.args.lines.now 0 c.loop-t.t c.loop-t-test.false

use Rattle.std.proofs.Common.{◌≡◌, ◌∙◌, length}
use Rattle.lu_machine.proofs.Layouts.{laid_more}
use Rattle.lu_machine.proofs.span.lay_out.Goals as goal

pub loop-array-preserved : goal.loop-array-preserved
loop-array-preserved c =
    let first : c.len.result ≡ length c.loop-array.cells.items = c.len.ensures ∙ c.loop-array.cells.ok.0 in
    rw (c.in_ok-push.ensures.items, c.in_ok-push_cells.ensures, first, c.from.ensures)
    (laid_more _ _ _ _ c.array-item.result c.loop-array.invariant c.loop-array-test.true c.array-item.is)

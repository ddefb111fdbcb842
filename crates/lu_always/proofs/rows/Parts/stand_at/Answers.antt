use Rattle.std.proofs.Common.{take, sym, ◌∙◌, ap, subst}
use Rattle.lu_test.specs.Matrix.{thread_count}
use Rattle.lu_machine.specs.Positions.{CanStand, standing_so}
use Rattle.lu_always.specs.Rows.{position_at}
use Rattle.lu_always.proofs.Rowed.{threads_read}
use Rattle.lu_always.proofs.rows.Parts.stand_at.Goals as goal

pub stand_with-requires : goal.stand_with-requires
stand_with-requires c =
    let component = c.args.machine.now.component in
    let matrix = c.args.machine.now.matrix in
    let p = position_at c.args.self.now c.args.row.now in
    let many = c.from-count.ensures ∙ (c.threads.ensures.threads ∙ (ap thread_count c.matrix.ensures ∙ sym c.requires.threads)) in
    let threads = threads_read c.args.self.now.threads.keys c.args.row.now.threads c.threads_with-threads.result c.from-count.result c.threads_with-threads.ensures many in
    subst (λ x. CanStand component matrix x c.list_with-locks.result.now (take c.from-count.result c.threads_with-threads.result)) (sym c.list_with-cells.ensures)
    (subst (λ x. CanStand component matrix p.cells x (take c.from-count.result c.threads_with-threads.result)) (sym c.list_with-locks.ensures)
    (subst (CanStand component matrix p.cells p.locks) (sym threads) c.requires))

pub returns : goal.returns
returns c =
    let s = c.args.machine.now in
    let p = position_at c.args.self.now c.args.row.now in
    let many = c.from-count.ensures ∙ (c.threads.ensures.threads ∙ (ap thread_count c.matrix.ensures ∙ sym c.requires.threads)) in
    let threads = threads_read c.args.self.now.threads.keys c.args.row.now.threads c.threads_with-threads.result c.from-count.result c.threads_with-threads.ensures many in
    c.stand_with.ensures
    ∙ (ap (λ x. standing_so s x c.list_with-locks.result.now (take c.from-count.result c.threads_with-threads.result)) c.list_with-cells.ensures
    ∙ (ap (λ x. standing_so s p.cells x (take c.from-count.result c.threads_with-threads.result)) c.list_with-locks.ensures
    ∙ ap (λ x. standing_so s p.cells p.locks x) threads))

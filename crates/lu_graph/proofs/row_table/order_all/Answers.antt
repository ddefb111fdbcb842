use Rattle.lu_graph.specs.InTables.{rows_at, rows_in}
use Rattle.lu_graph.proofs.Ordered.{ordered_more}
use Rattle.lu_graph.proofs.row_table.order_all.Goals as goal

pub loop-row-preserved : goal.loop-row-preserved
loop-row-preserved c =
    let lists = rows_in c.args.tables.now in
    let step = ordered_more lists c.args.rows.now (rows_at lists c.args.order.items) c.loop-row.order.items c.order_next.new.order.items c.loop-row.counts c.order_next.new.counts c.loop-row.row-index _ c.loop-row-test.true
    c.in_ok-order_next.ensures c.loop-row.invariant.have c.loop-row.invariant.counts c.loop-row.invariant.rows in
    record { have = step.0.have; counts = step.0.many; rows = step.1 }

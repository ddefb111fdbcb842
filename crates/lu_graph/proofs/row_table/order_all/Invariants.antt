use Rattle.std.proofs.Common.{◌≡◌, drop}
use Rattle.indexmap.specs.IndexSet.{insert_all}
use Rattle.lu_graph.specs.InTables.{AreCounts, HaveNext, row_eq, rows_at, rows_in}
use Rattle.lu_graph.proofs.row_table.order_all.Given as goal

abbrev pub invariant-loop-row : goal.invariant-loop-row
invariant-loop-row l = record {
  have : HaveNext (rows_in l.tables) l.order.items (drop l.row-index l.rows);
  counts : AreCounts l.counts (rows_at (rows_in l.tables) l.order.items);
  rows : insert_all row_eq (rows_at (rows_in l.tables) l.order.items) (drop l.row-index l.rows)
      ≡ insert_all row_eq (rows_at (rows_in l.tables) l.initial.order.items) l.rows;
}

use Rattle.std.proofs.Common.{◌≡◌, drop}
use Rattle.std.specs.Prelude.{filter}
use Rattle.indexmap.specs.IndexSet.{insert_all}
use Rattle.lu_graph.specs.InTables.{is_of, row_eq}
use Rattle.lu_graph.proofs.row_table.put_own.Given as goal

abbrev pub invariant-loop-row : goal.invariant-loop-row
invariant-loop-row l =
    insert_all row_eq l.table.keys (filter (is_of l.number) (drop l.row-index l.rows))
    ≡ insert_all row_eq l.initial.table.keys (filter (is_of l.number) l.rows)

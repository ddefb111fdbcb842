use Rattle.std.proofs.Common.{◌∙◌, ap}
use Rattle.std.specs.List.{list_any}
use Rattle.lu_graph.specs.AllRows.{AllRows}
use Rattle.lu_graph.specs.InTables.{row_eq, rows_in}
use Rattle.lu_graph.proofs.Tabled.{known}
use Rattle.lu_graph.proofs.row_table.RowTable.contains.Goals as goal

pub returns : goal.returns
returns c =
    let row = c.args.row.now in
    c.has.ensures ∙ (known (rows_in c.self.inside.tables) c.self.inside.order.items row c.table_of.result c.self.invariant c.table_of.ensures.value c.table_of.ensures.small
    ∙ ap (λ (rows : AllRows). list_any (row_eq row) rows.keys) (c.self.view_is))

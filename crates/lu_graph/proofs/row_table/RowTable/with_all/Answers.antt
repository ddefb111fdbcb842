use Rattle.std.proofs.Common.{◌∙◌, ap}
use Rattle.std.specs.Prelude.{List}
use Rattle.indexmap.specs.IndexSet.{insert_all}
use Rattle.lu_graph.specs.declared.row.Row.{Row}
use Rattle.lu_graph.specs.AllRows.{AllRows}
use Rattle.lu_graph.specs.InTables.{row_eq, rows_in}
use Rattle.lu_graph.proofs.Ordered.{counted}
use Rattle.lu_graph.proofs.Tabled.{filled}
use Rattle.lu_graph.proofs.row_table.RowTable.with_all.Goals as goal

pub order_all-requires-clause-have : goal.order_all-requires-clause-have
order_all-requires-clause-have g c =
    (filled (rows_in c.self.inside.tables) (rows_in c.in_ok-tables.tables) c.self.inside.order.items c.args.rows.now c.self.invariant c.in_ok-tables.ensures).0

pub order_all-requires-clause-counts : goal.order_all-requires-clause-counts
order_all-requires-clause-counts g c =
    let full = filled (rows_in c.self.inside.tables) (rows_in c.in_ok-tables.tables) c.self.inside.order.items c.args.rows.now c.self.invariant c.in_ok-tables.ensures in
    counted (rows_in c.self.inside.tables) (rows_in c.in_ok-tables.tables) c.self.inside.order.items c.lengths-counts.result c.self.invariant full.1 c.lengths-counts.ensures

pub returns : goal.returns
returns g c =
    let full = filled (rows_in c.self.inside.tables) (rows_in c.in_ok-tables.tables) c.self.inside.order.items c.args.rows.now c.self.invariant c.in_ok-tables.ensures in
    c.in_ok-order.ensures.keys
    ∙ ap (λ (rows : List Row). insert_all row_eq rows c.args.rows.now) (full.1 ∙ ap (λ (rows : AllRows). rows.keys) c.self.view_is)

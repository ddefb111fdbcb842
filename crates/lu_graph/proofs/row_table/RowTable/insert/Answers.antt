use Rattle.std.proofs.Common.{◌++◌, ◌∷◌, [], ◌∙◌, ap}
use Rattle.std.specs.Prelude.{not}
use Rattle.std.specs.List.{list_any}
use Rattle.indexmap.specs.IndexSet.{insert_key}
use Rattle.lu_graph.specs.AllRows.{AllRows}
use Rattle.lu_graph.specs.InTables.{row_eq, rows_in}
use Rattle.lu_graph.proofs.Tabled.{inserted_new, inserted_old, was_new}
use Rattle.lu_graph.proofs.row_table.RowTable.insert.Goals as goal

pub invariant_of-self-then-added : goal.invariant_of-self-then-added
invariant_of-self-then-added c =
    (inserted_new (rows_in c.self.inside.tables) (rows_in c.put.new.tables) c.self.inside.order.items c.args.row c.table_of-number.result c.self.invariant c.in_ok-added.ensures.put c.table_of-number.ensures.value c.table_of-number.ensures.small c.in_ok-added.added c.in_ok-added.ensures.added
    c.in_ok-at.at c.push_reserved.new.self.items c.if-added.true c.in_ok-at.ensures.table c.in_ok-at.ensures.index
    (c.push_reserved.ensures.items ∙ ap (λ o. o ++ c.in_ok-at.at ∷ []) c.reserve.ensures.items)).0

pub invariant_of-self-else-added : goal.invariant_of-self-else-added
invariant_of-self-else-added c =
    (inserted_old (rows_in c.self.inside.tables) (rows_in c.put.new.tables) c.self.inside.order.items c.args.row c.table_of-number.result c.self.invariant c.in_ok-added.ensures.put c.table_of-number.ensures.value c.table_of-number.ensures.small c.in_ok-added.added c.in_ok-added.ensures.added
    c.reserve.new.self.items c.if-added.false c.reserve.ensures.items).0

pub returns-then-added-clause-added : goal.returns-then-added-clause-added
returns-then-added-clause-added c =
    was_new (rows_in c.self.inside.tables) (rows_in c.put.new.tables) c.self.inside.order.items c.args.row c.table_of-number.result c.self.invariant c.in_ok-added.ensures.put c.table_of-number.ensures.value c.table_of-number.ensures.small c.in_ok-added.added c.in_ok-added.ensures.added
    ∙ ap (λ (rows : AllRows). not (list_any (row_eq c.args.row) rows.keys)) c.self.view_is

pub returns-then-added-clause-keys : goal.returns-then-added-clause-keys
returns-then-added-clause-keys c =
    (inserted_new (rows_in c.self.inside.tables) (rows_in c.put.new.tables) c.self.inside.order.items c.args.row c.table_of-number.result c.self.invariant c.in_ok-added.ensures.put c.table_of-number.ensures.value c.table_of-number.ensures.small c.in_ok-added.added c.in_ok-added.ensures.added
    c.in_ok-at.at c.push_reserved.new.self.items c.if-added.true c.in_ok-at.ensures.table c.in_ok-at.ensures.index
    (c.push_reserved.ensures.items ∙ ap (λ o. o ++ c.in_ok-at.at ∷ []) c.reserve.ensures.items)).1
    ∙ ap (λ (rows : AllRows). insert_key row_eq rows.keys c.args.row) c.self.view_is

pub returns-else-added-clause-added : goal.returns-else-added-clause-added
returns-else-added-clause-added c =
    was_new (rows_in c.self.inside.tables) (rows_in c.put.new.tables) c.self.inside.order.items c.args.row c.table_of-number.result c.self.invariant c.in_ok-added.ensures.put c.table_of-number.ensures.value c.table_of-number.ensures.small c.in_ok-added.added c.in_ok-added.ensures.added
    ∙ ap (λ (rows : AllRows). not (list_any (row_eq c.args.row) rows.keys)) c.self.view_is

pub returns-else-added-clause-keys : goal.returns-else-added-clause-keys
returns-else-added-clause-keys c =
    (inserted_old (rows_in c.self.inside.tables) (rows_in c.put.new.tables) c.self.inside.order.items c.args.row c.table_of-number.result c.self.invariant c.in_ok-added.ensures.put c.table_of-number.ensures.value c.table_of-number.ensures.small c.in_ok-added.added c.in_ok-added.ensures.added
    c.reserve.new.self.items c.if-added.false c.reserve.ensures.items).1
    ∙ ap (λ (rows : AllRows). insert_key row_eq rows.keys c.args.row) c.self.view_is

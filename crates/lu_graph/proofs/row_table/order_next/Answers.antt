use Rattle.std.proofs.Common.{rules, ◌≡◌, ◌<◌, ◌+◌, ◌++◌, ◌∷◌, [], length, sym, ◌∙◌, ap, subst}
use Rattle.std.specs.Prelude.{List, slice_index}
use Rattle.std.proofs.Math.ListN.{set}
use Rattle.lu_graph.specs.declared.row_table.RowIndex.{RowIndex}
use Rattle.lu_graph.specs.InTables.{PutsInOrder, rows_in, table_of}
use Rattle.lu_graph.proofs.Ordered.{puts_new, puts_old}
use Rattle.lu_graph.proofs.row_table.order_next.Goals as goal

pub returns-in_ok-push : goal.returns-in_ok-push
returns-in_ok-push c =
    let lists = rows_in c.args.tables.now in
    let counts = c.args.counts.now in
    let row = c.args.row.now in
    let order = c.args.order.now.items in
    let p = c.in_ok-row_index.field-0 in
    let n = c.from-2.result in
    let count = slice_index counts c.from.result in
    let is : n ≡ table_of row = c.from-2.ensures ∙ c.table_of-number.ensures.value in
    let small : n < 4 = search rules in
    let at : count ≡ slice_index counts n = ap (slice_index counts) (c.from.ensures ∙ sym c.from-2.ensures) in
    let same : n ≡ c.from-then-is_at.result = c.from-2.ensures ∙ sym c.from-then-is_at.ensures in
    let four : length counts ≡ 4 = search rules in
    let puts = puts_new lists order counts row n count is small at p (sym c.is_at.ensures.at ∙ c.if-is_at.true) c.is_at.ensures.unique four (c.in_ok-row_index.ensures.table ∙ sym c.from-2.ensures) c.in_ok-row_index.ensures.index in
    subst (λ (o : List RowIndex). PutsInOrder lists row counts (set counts c.from-then-is_at.result (count + 1)) order o) (sym c.in_ok-push.ensures.items)
    (subst (λ m. PutsInOrder lists row counts (set counts m (count + 1)) order (order ++ p ∷ [])) same puts)

pub returns-else-is_at : goal.returns-else-is_at
returns-else-is_at c =
    let counts = c.args.counts.now in
    let n = c.from-2.result in
    let small : n < 4 = search rules in
    puts_old (rows_in c.args.tables.now) c.args.order.now.items counts c.args.row.now n (slice_index counts c.from.result) (c.from-2.ensures ∙ c.table_of-number.ensures.value) small
    (ap (slice_index counts) (c.from.ensures ∙ sym c.from-2.ensures)) (sym c.is_at.ensures.at ∙ c.if-is_at.false)

use Rattle.std.proofs.Common.{rules, get_or}
use Rattle.lu_graph.specs.declared.row_table.Table.{Table}
use Rattle.lu_graph.proofs.Tabled.{on_err, put_kept, put_one}
use Rattle.lu_graph.proofs.row_table.put.Goals as goal

pub returns-in_err-added-clause-kept : goal.returns-in_err-added-clause-kept
returns-in_err-added-clause-kept c =
    let read = get_or c.args.tables.now c.from.result c.index-tables-from.result in
    let new : Table = record read { rows = c.insert.new.self } in
    on_err c.from_residual.result (put_kept c.args.tables.now c.from.result c.index-tables-from.result new (search rules) c.in_err-added.ensures.err)

pub returns-clause-put : goal.returns-clause-put
returns-clause-put c =
    let read = get_or c.args.tables.now c.from.result c.index-tables-from.result in
    let new : Table = record read { rows = c.insert.new.self } in
    put_one c.args.tables.now c.from.result c.index-tables-from.result new c.args.row (search rules) (search rules) c.in_ok-added.ensures.keys

use Rattle.std.proofs.Common.{arith, rules, ◌<◌, length, ap, sym, ◌∙◌}
use Rattle.std.specs.Prelude.{List}
use Rattle.std.proofs.Math.ListN.{length-set}
use Rattle.lu_graph.specs.declared.row.Row.{Row}
use Rattle.lu_graph.specs.InTables.{rows_in}
use Rattle.lu_graph.proofs.Ordered.{length_more}
use Rattle.lu_graph.proofs.Tabled.{read_own}
use Rattle.lu_graph.proofs.row_table.lengths.Goals as goal

pub loop-number-preserved : goal.loop-number-preserved
loop-number-preserved c =
    let tables = c.args.tables.now in
    let within : c.loop-number.number < length tables = search rules in
    let own = read_own tables c.loop-number.number c.index-tables-number.result within in
    let long = length-set c.loop-number.counts c.loop-number.number c.len.result in
    let four = c.loop-number.invariant.four in
    record {
      four = long ∙ four;
      lengths = length_more c.loop-number.counts (rows_in tables) c.loop-number.number c.len.result (omega arith) (c.len.ensures.len ∙ ap (λ (rows : List Row). length rows) (sym own)) c.loop-number.invariant.lengths;
    }

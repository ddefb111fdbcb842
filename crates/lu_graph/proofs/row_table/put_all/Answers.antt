use Rattle.std.proofs.Common.{rules, sym, ◌∙◌}
use Rattle.lu_graph.proofs.Ordered.{all_taken}
use Rattle.lu_graph.proofs.row_table.put_all.Goals as goal

pub returns : goal.returns
returns g c = all_taken c.args.tables c.fill_each-filled.result c.args.rows.now (search rules) c.fill_each-filled.ensures (sym c.is_any_refused.ensures ∙ c.if-is_any_refused.false)

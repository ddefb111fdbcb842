use Rattle.std.proofs.Common.{take}
use Rattle.lu_graph.specs.Putting.{Puts}
use Rattle.lu_graph.proofs.expanders.put_each.Given as goal

abbrev pub invariant-loop-row : goal.invariant-loop-row
invariant-loop-row l = Puts l.fn.table.keys (take l.row-index l.rows) l.table.keys

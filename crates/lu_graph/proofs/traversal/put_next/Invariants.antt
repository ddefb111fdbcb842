use Rattle.std.proofs.Common.{◌≡◌, drop, take}
use Rattle.lu_graph.proofs.Put.{PutsFirst}
use Rattle.lu_graph.proofs.traversal.put_next.Given as goal

abbrev pub invariant-loop : goal.invariant-loop
invariant-loop l = record {
  rest : l.rows.items ≡ drop l.counter l.fn.rows.items;
  put : PutsFirst (take l.fn.count l.fn.rows.items) l.fn.nodes l.counter l.nodes;
}

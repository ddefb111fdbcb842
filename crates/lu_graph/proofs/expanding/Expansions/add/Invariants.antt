use Rattle.std.proofs.Common.{◌≡◌, ◌++◌, take}
use Rattle.lu_graph.proofs.expanding.Expansions.add.Given as goal

abbrev pub invariant-loop-row : goal.invariant-loop-row
invariant-loop-row l =
    (l.self.nodes ≡ l.fn.self.nodes) × (l.self.rows.items ≡ l.fn.self.rows.items ++ take l.row-index l.next)

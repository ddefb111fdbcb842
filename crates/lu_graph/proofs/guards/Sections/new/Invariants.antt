use Rattle.std.proofs.Common.{◌≡◌, ◌<◌, ℕ, [], get_or, length}
use Rattle.lu_graph.proofs.Sectioned.{IsSectionOf}
use Rattle.lu_graph.proofs.guards.Sections.new.Given as goal

abbrev pub invariant-loop-op : goal.invariant-loop-op
invariant-loop-op l = record {
  many : l.op ≡ length l.operations.items;
  rows : (o : ℕ) → o < length l.operations.items → IsSectionOf l.component l.lock o (get_or l.operations.items o []);
}

use Rattle.std.proofs.Common.{◌≡◌, ◌↔◌, ◌<◌, ℕ, true, false, get_or, length}
use Rattle.lu_graph.specs.Guards.{IsGuarded}
use Rattle.lu_graph.proofs.guards.Guards.new.Given as goal

abbrev pub invariant-loop-array : goal.invariant-loop-array
invariant-loop-array l = record {
  many : l.array ≡ length l.arrays.items;
  told : (v : ℕ) → v < length l.arrays.items → get_or l.arrays.items v false ≡ true ↔ IsGuarded l.component v;
}

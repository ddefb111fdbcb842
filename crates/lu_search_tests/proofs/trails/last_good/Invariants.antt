use Rattle.std.proofs.Common.{◌≡◌, []}
use Rattle.lu_search_tests.proofs.trails.last_good.Given as goal

abbrev pub invariant-loop-number : goal.invariant-loop-number
invariant-loop-number g l = record {
  empty : l.trail.history ≡ [];
  tree : l.cache.tree ≡ l.trail.tree;
}

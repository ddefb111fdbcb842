use Rattle.std.proofs.Common.{◌≡◌, []}
use Rattle.lu_search_tests.proofs.trails.assert_judged.Given as goal

abbrev pub invariant-loop-triple : goal.invariant-loop-triple
invariant-loop-triple g l = record {
  empty : l.trail.history ≡ [];
  tree : l.cache.tree ≡ l.trail.tree;
}

use Rattle.std.proofs.Common.{◌≡◌, ◌+◌, length}
use Rattle.lu_search_tests.proofs.trails.judge.Given as goal

abbrev pub invariant-loop-event : goal.invariant-loop-event
invariant-loop-event g l = record {
  length : length l.trail.history + l._event ≡ 6;
  tree : l.cache.tree ≡ l.trail.tree;
}

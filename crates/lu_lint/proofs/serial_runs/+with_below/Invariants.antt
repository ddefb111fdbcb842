use Rattle.std.proofs.Common.{◌≡◌}
use Rattle.lu_trie.specs.Members.{weight}
use Rattle.lu_lint.proofs.Shown.{of_kids}
use Rattle.lu_lint.proofs.serial_runs.+with_below.Given as goal

abbrev pub decreases-with_below : goal.decreases-with_below
decreases-with_below g l = weight (g.T.SerialTree.below l.tree.now l.place)

abbrev pub invariant-loop-i : goal.invariant-loop-i
invariant-loop-i g l = record {
  path : l.path.items ≡ l.fn.path.items;
  hints : l.found.items ≡ of_kids l.fn.found.items l.fn.path.items (g.T.SerialTree.below l.tree l.place) l.i;
}

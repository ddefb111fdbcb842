use Rattle.std.proofs.Common.{◌≡◌, take}
use Rattle.lu_trie.specs.Members.{weight}
use Rattle.lu_trie.specs.Branches.{branches_of, joined}
use Rattle.lu_spec.specs.Specs.{AllHaveOutcomes}
use Rattle.lu_spec.proofs.Below.{AddedTo}
use Rattle.lu_spec.proofs.closing.+add_below.Given as goal

abbrev pub decreases-add_below : goal.decreases-add_below
decreases-add_below g l = weight (g.T.SerialTree.below l.tree.now l.place)

abbrev pub invariant-loop-i : goal.invariant-loop-i
invariant-loop-i g l = record {
  path : l.path.items ≡ l.fn.path.items;
  added : AddedTo l.fn.set l.fn.path.items (branches_of (g.T.SerialTree.below l.tree l.place)) l.i l.set;
  outcomes : AllHaveOutcomes (joined (take l.i (branches_of (g.T.SerialTree.below l.tree l.place))));
}

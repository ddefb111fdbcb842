use Rattle.std.proofs.Common.{◌≡◌, ◌++◌, [], map, take}
use Rattle.lu_trie.specs.Branches.{branches_of, joined}
use Rattle.lu_trie.specs.Members.{contains, empty_if, weight}
use Rattle.lu_graph.specs.Listing.{histories}
use Rattle.lu_graph.proofs.listing.+list_below.Given as goal

abbrev pub decreases-list_below : goal.decreases-list_below
decreases-list_below g l = weight (g.T.SerialTree.below l.tree.now l.place)

abbrev pub invariant-loop-i : goal.invariant-loop-i
invariant-loop-i g l = record {
  home : l.path.items ≡ l.fn.path.items;
  found : histories l.found.items ≡ histories l.fn.found.items ++ map (λ q. l.fn.path.items ++ q) (empty_if (contains (g.T.SerialTree.below l.tree l.place) []) ++ joined (take l.i (branches_of (g.T.SerialTree.below l.tree l.place))));
}

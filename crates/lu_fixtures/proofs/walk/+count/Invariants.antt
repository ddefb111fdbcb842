use Rattle.std.proofs.Common.{◌≡◌, ◌+◌, ◌-◌, ◌^◌, min, length, take}
use Rattle.lu_trie.specs.Branches.{joined, branches_of}
use Rattle.lu_trie.specs.Members.{weight}
use Rattle.lu_fixtures.proofs.walk.+count.Given as goal

abbrev pub decreases-count : goal.decreases-count
decreases-count g l = weight (g.T.SerialTree.below l.tree.now l.place)

abbrev pub invariant-loop-i : goal.invariant-loop-i
invariant-loop-i g l = l.count ≡ min (l.initial.count + length (joined (take l.i (branches_of (g.T.SerialTree.below l.tree l.place))))) (2 ^ 64 - 1)

use Rattle.std.proofs.Common.{◌≡◌, take}
use Rattle.lu_trie.specs.Members.{weight}
use Rattle.lu_trie.specs.Branches.{branches_of}
use Rattle.lu_fixtures.proofs.walk.+same_members.Given as goal

abbrev pub decreases-same_members : goal.decreases-same_members
decreases-same_members g l = weight (g.S.SerialTree.below l.left.now l.here)

abbrev pub invariant-loop-i : goal.invariant-loop-i
invariant-loop-i g l = take l.i (branches_of (g.S.SerialTree.below l.left l.here)) ≡ take l.i (branches_of (g.T.SerialTree.below l.right l.there))

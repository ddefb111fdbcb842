use Rattle.std.proofs.Common.{take}
use Rattle.lu_trie.specs.Members.{weight}
use Rattle.lu_trie.specs.Branches.{joined, branches_of}
use Rattle.lu_spec.specs.Specs.{AllFitIn}
use Rattle.lu_spec.proofs.fitting.+all_fit.Given as goal

abbrev pub decreases-all_fit : goal.decreases-all_fit
decreases-all_fit g l = weight (g.T.SerialTree.below l.tree.now l.place)

abbrev pub invariant-loop-i : goal.invariant-loop-i
invariant-loop-i g l = AllFitIn l.left (joined (take l.i (branches_of (g.T.SerialTree.below l.tree l.place))))

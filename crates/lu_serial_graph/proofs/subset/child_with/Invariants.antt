use Rattle.lu_trie.specs.Branches.{branches_of}
use Rattle.lu_trie.proofs.Trees.{ApartBelow}
use Rattle.lu_serial_graph.proofs.subset.child_with.Given as goal

abbrev pub invariant-loop-i : goal.invariant-loop-i
invariant-loop-i g l = ApartBelow (branches_of (g.T.SerialTree.below l.tree l.place)) l.label l.i

use Rattle.std.proofs.Common.{◌≡◌, ℕ, ◌<◌, List, ◌∷◌, ◌++◌, true, Some, slice_get}
use Rattle.lu_history.specs.declared.serial.SerialOp.{SerialOp}
use Rattle.lu_trie.specs.Members.{contains, weight}
use Rattle.lu_trie.specs.Branches.{Branch, branches_of}
use Rattle.lu_witness.specs.Witnesses.{IsWitness}
use Rattle.lu_witness.specs.Search.{AreTaken, IsBeginning}
use Rattle.lu_witness.proofs.search.+finds.Given as goal

abbrev pub decreases-finds : goal.decreases-finds
decreases-finds g l = weight (g.T.SerialTree.below l.tree.now l.place)

abbrev pub invariant-loop-i : goal.invariant-loop-i
invariant-loop-i g l = (p : List SerialOp) → AreTaken p l.taken → IsBeginning l.history p → (j : ℕ) (b : Branch) → j < l.i → slice_get (branches_of (g.T.SerialTree.below l.tree l.place)) j ≡ Some b → (q : List SerialOp) → contains b.1 q ≡ true → IsWitness (p ++ b.0 ∷ q) l.history → ⊥

use Rattle.std.proofs.Common.{◌≡◌, ℕ, ◌<◌, length, get_or, false}
use Rattle.lu_trie.specs.Branches.{Branch, branches_of}
use Rattle.lu_trie.specs.Members.{same_op}
use Rattle.lu_serial.proofs.outside.+contains_below.Given as goal

abbrev pub decreases-contains_below : goal.decreases-contains_below
decreases-contains_below g l = length l.history.now

abbrev pub invariant-loop-i : goal.invariant-loop-i
invariant-loop-i g l = (j : ℕ) (e : Branch) → j < l.i → same_op l.op (get_or (branches_of (g.T.SerialTree.below l.tree l.place)) j e).0 ≡ false

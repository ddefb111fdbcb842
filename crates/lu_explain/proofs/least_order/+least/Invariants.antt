use Rattle.lu_trie.specs.Members.{weight}
use Rattle.lu_explain.proofs.Leasts.{NoneTo, NotHere}
use Rattle.lu_explain.proofs.least_order.+least.Given as goal

abbrev pub decreases-least : goal.decreases-least
decreases-least g l = weight (g.T.SerialTree.below l.tree.now l.place)

abbrev pub invariant-loop-i : goal.invariant-loop-i
invariant-loop-i g l = record {
  none : NoneTo (g.T.SerialTree.below l.tree l.place) l.history l.taken l.i;
  here : NotHere (g.T.SerialTree.below l.tree l.place) l.history l.taken;
}

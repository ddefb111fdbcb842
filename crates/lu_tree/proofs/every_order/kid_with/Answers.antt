use Rattle.std.proofs.Common.{◌≡◌, ◌<◌, length, Some, slice_get, sym, subst, arith}
use Rattle.lu_history.proofs.Derived.{ops_alike}
use Rattle.lu_trie.specs.Branches.{branches_of}
use Rattle.lu_tree.proofs.OrderSets.{kid_after}
use Rattle.lu_tree.proofs.every_order.kid_with.Goals as goal

pub returns-then-eq-clause-after : goal.returns-then-eq-clause-after
returns-then-eq-clause-after g c =
    let hs = g.T.SerialTree.below c.args.tree.now c.args.place in
    let kid = g.T.SerialTree.below c.args.tree.now c.kid-kid.result.1 in
    let law = g.met.T.SerialTree.branching c.args.tree.now c.args.place c.requires in
    let same = ops_alike c.kid-kid.result.0 c.args.label (sym c.if-eq.ensures) in
    let at : slice_get (branches_of hs) c.loop-i.i ≡ Some (c.args.label, kid) = subst (λ x. slice_get (branches_of hs) c.loop-i.i ≡ Some (x, kid)) same c.kid-kid.ensures.kid in
    let within : c.loop-i.i < length (branches_of hs) = omega (arith, c.loop-i-test.true, c.kid_count-i-end.ensures) in
    kid_after hs law c.loop-i.i c.args.label kid within at

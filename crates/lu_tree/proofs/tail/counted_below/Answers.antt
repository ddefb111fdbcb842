use Rattle.std.proofs.Common.{arith, [], refl, subst}
use Rattle.lu_witness.specs.Witnesses.{IsMember}
use Rattle.lu_tree.specs.Tails.{IsCutBelow, IsGoodTail}
use Rattle.lu_tree.specs.Walks.{IsGoodAfter, completes, cuts}
use Rattle.lu_tree.proofs.BelowLaws.{below_here}
use Rattle.lu_tree.proofs.CutBelow.{cut_all}
use Rattle.lu_tree.proofs.Finishing.{tail_all}
use Rattle.lu_tree.proofs.tail.counted_below.Goals as goal

pub returns-in-Some-clause-below : goal.returns-in-Some-clause-below
returns-in-Some-clause-below g c =
    let s = c.args.node.now.machine in
    let h = c.args.node.now.trail.history in
    let Set = IsMember (g.T.SerialTree.members c.args.node.now.trail.tree) in
    let left = c.args.left in
    let cut : IsCutBelow s left c.in-Some.cut = subst (λ n. IsCutBelow s n c.in-Some.cut) c.from-left.ensures (c.in-Some.ensures c.requires.serves) in
    below_here Set s h left (cuts c.in-Some.cut) (λ k re. cut_all s (IsGoodAfter Set k) left left c.in-Some.cut [] s [] (refl, refl) (omega arith) cut)

pub returns-clause-below : goal.returns-clause-below
returns-clause-below g c =
    let s = c.args.node.now.machine in
    let h = c.args.node.now.trail.history in
    let Set = IsMember (g.T.SerialTree.members c.args.node.now.trail.tree) in
    let left = c.args.left in
    let n = c.in-Some-found.complete in
    let tail : IsGoodTail Set s h left n = subst (λ m. IsGoodTail Set s h m n) c.from-left.ensures (rw c.in-Some-found.is at c.in_ok-found.ensures.tail) in
    below_here Set s h left (completes n) (λ k re. tail_all Set left n s h k c.requires.agree re tail)

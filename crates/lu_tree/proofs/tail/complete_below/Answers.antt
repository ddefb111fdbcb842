use Rattle.std.proofs.Common.{◌≡◌, IfSome}
use Rattle.std.proofs.lemmas.Option.{IfSome_then}
use Rattle.lu_machine.specs.Sums.{capped}
use Rattle.lu_orders.specs.Orders.{interleavings}
use Rattle.lu_witness.specs.Witnesses.{IsMember}
use Rattle.lu_tree.specs.Tails.{IsGoodTail, IsRest, StartsAfter}
use Rattle.lu_tree.proofs.Finishing.{rest_all}
use Rattle.lu_tree.proofs.tail.complete_below.Goals as goal

pub returns-clause-tail : goal.returns-clause-tail
returns-clause-tail g c =
    let Set = IsMember (g.T.SerialTree.members c.args.node.now.trail.tree) in
    let s = c.args.node.now.machine in
    let h = c.args.node.now.trail.history in
    let question = c.in-Some.question in
    let lengths = c.in-Some-found.lengths.items in
    let after : StartsAfter question.judging h = rw c.in-Some.is at c.in_ok-question.ensures.after in
    let numbers : IfSome c.interleavings.result (λ n. n ≡ capped (interleavings lengths)) = rw c.deref.ensures.value at c.interleavings.ensures.number in
    let rest : IsRest Set question s h 0 c.args.left lengths = rw (c.in-Some-found.is, c.question_at.ensures.same) at c.in_ok-found.ensures.rest in
    IfSome_then c.interleavings.result {Q = IsGoodTail Set s h c.args.left} numbers
    (λ n is. rest_all Set question s h c.args.left n lengths after rest is)

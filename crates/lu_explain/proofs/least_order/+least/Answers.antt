use Rattle.std.proofs.Common.{rules, ap, length, arith, subst, sym}
use Rattle.lu_explain.specs.AnyOrders.{IsLeast}
use Rattle.lu_explain.specs.Search.{Completes}
use Rattle.lu_trie.proofs.Trees.{branch_lighter}
use Rattle.lu_explain.proofs.Counting.{number_few}
use Rattle.lu_explain.proofs.Leasts.{least_kid, none_kid, none_past, none_all}
use Rattle.lu_explain.proofs.least_order.+least.Goals.{then-is_next_outcome+in-None, else-is_next_outcome}
use Rattle.lu_explain.proofs.least_order.+least.Goals as goal

pub returns-then-is_done-clause-count : goal.returns-then-is_done-clause-count
returns-then-is_done-clause-count g t c = let none = ap length c.new.ensures in omega (arith, none, number_few c.args.taken.now c.requires.few)

pub least-requires : goal.least-requires
least-requires g t c κs w =
    let law = g.met.T.SerialTree.branching c.args.tree.now c.args.place c.requires.place in
    (let lt = branch_lighter _ law c.loop-i.i _ c.kid-below.ensures.kid in search (rules, lt), (w.0, (w.1, (c.requires.history, (c.kid-below.ensures.place, c.one_more.ensures.few c.requires.few)))))

pub returns-in-Some-clause-least : goal.returns-in-Some-clause-least
returns-in-Some-clause-least g t c =
    let law = g.met.T.SerialTree.branching c.args.tree.now c.args.place c.requires.place in
    let below = g.T.SerialTree.below c.args.tree.now c.args.place in
    let next = c.is_next_outcome.ensures.next.0 c.if-is_next_outcome.true in
    subst (IsLeast (Completes below c.args.history.now c.args.taken.now)) (sym c.in_front.ensures)
    (least_kid below law c.args.history.now c.args.taken.now c.loop-i.i _ c.kid-below.ensures.kid c.loop-i.invariant.none _ c.one_more.ensures.one c.loop-i.invariant.here next c.in-Some.order c.in-Some.ensures.least)

pub loop-i-preserved : goal.loop-i-preserved
loop-i-preserved g t c =
    let law = g.met.T.SerialTree.branching c.args.tree.now c.args.place c.requires.place in
    let below = g.T.SerialTree.below c.args.tree.now c.args.place in
    let h = c.args.history.now in
    let taken = c.args.taken.now in
    record {
      here = c.loop-i.invariant.here;
      none = elim c.if-is_next_outcome.branch [
        | then-is_next_outcome+in-None w ↦ none_kid below law h taken c.loop-i.i _ c.kid-below.ensures.kid c.loop-i.invariant.none _ w.one_more.ensures.one w.in-None.ensures.least
        | else-is_next_outcome w ↦ none_past below law h taken c.loop-i.i _ c.kid-below.ensures.kid c.loop-i.invariant.none (λ at. let is = c.is_next_outcome.ensures.next.1 at in cc (is, w.if-is_next_outcome.false))
      ];
    }

pub returns-clause-least : goal.returns-clause-least
returns-clause-least g t c =
    let law = g.met.T.SerialTree.branching c.args.tree.now c.args.place c.requires.place in
    none_all (g.T.SerialTree.below c.args.tree.now c.args.place) law c.args.history.now c.args.taken.now c.loop-i.i (omega (arith, c.kid_count-i-end.ensures, c.loop-i-test.false)) c.loop-i.invariant.here c.loop-i.invariant.none

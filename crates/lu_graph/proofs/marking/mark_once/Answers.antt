use Rattle.std.proofs.Common.{arith, ◌≡◌, ℕ, ◌+◌, ◌-◌, ◌<◌, Bool, length, get_or, sym, subst}
use Rattle.std.specs.Prelude.{MatchBool}
use Rattle.std.proofs.lemmas.Option.{slice_get-get_or}
use Rattle.lu_graph.specs.declared.edge.Edge.{Edge}
use Rattle.lu_graph.specs.Discovering.{edge}
use Rattle.lu_graph.specs.Marking.{MarksFrom, MarksNone}
use Rattle.lu_graph.proofs.Spread.{MarkedSoFar, settled_all, so_far_kept, so_far_marked, so_far_none}
use Rattle.lu_graph.proofs.marking.mark_once.Goals as goal
use Rattle.lu_graph.proofs.marking.mark_once.Goals.{then-mark_along, else-mark_along}

pub loop-back-preserved : goal.loop-back-preserved
loop-back-preserved c =
    let edges = c.args.edges.now in
    let old = c.args.marks.now in
    let mid = c.loop-back.marks in
    let new = c.mark_along.new.marks in
    let back = c.loop-back.back in
    let lt : back < length c.args.edges.now = omega arith in
    let k : ℕ = length c.args.edges.now - 1 - c.loop-back.back in
    let e : Edge = get_or c.args.edges.now (length c.args.edges.now - 1 - c.loop-back.back) (edge 0 0) in
    let here : (length c.args.edges.now - 1 - c.loop-back.back) + c.loop-back.back + 1 ≡ length c.args.edges.now = omega (arith, lt) in
    let at = slice_get-get_or c.args.edges.now (length c.args.edges.now - 1 - c.loop-back.back) (edge 0 0) (omega (arith, lt)) in
    elim c.if-mark_along.branch as (λ _. MarkedSoFar c.args.edges.now c.args.marks.now c.mark_along.new.marks (c.loop-back.back + 1) c.if-mark_along.is_changed) [
      | then-mark_along w ↦
          (let marks = subst (λ (b : Bool). MatchBool b (MarksFrom e mid new) (MarksNone e mid new)) w.if-mark_along.true c.mark_along.ensures in
          subst (λ (b : Bool). MarkedSoFar edges old new (back + 1) b) (sym w.is_changed-is)
          (so_far_marked edges old mid new back k c.loop-back.is_changed e here at c.loop-back.invariant marks))
      | else-mark_along w ↦
          (let marks = subst (λ (b : Bool). MatchBool b (MarksFrom e mid new) (MarksNone e mid new)) w.if-mark_along.false c.mark_along.ensures in
          subst (λ (b : Bool). MarkedSoFar edges old new (back + 1) b) (sym w.is_changed-is)
          (so_far_kept edges old mid new back k c.loop-back.is_changed e here at c.loop-back.invariant marks))
    ]

pub returns-clause-settled : goal.returns-clause-settled
returns-clause-settled c = settled_all c.args.edges.now c.args.marks.now c.loop-back.marks c.loop-back.back c.loop-back.is_changed (omega arith) c.loop-back.invariant

pub loop-back-init : goal.loop-back-init
loop-back-init c = so_far_none c.args.edges.now c.args.marks.now

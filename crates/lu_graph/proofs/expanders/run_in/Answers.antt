use Rattle.std.proofs.Common.{arith, ◌≡◌, All, sym, ◌∙◌, ap, subst}
use Rattle.std.proofs.lemmas.List.Elements.{All-push}
use Rattle.std.specs.Prelude.{slice_index_or}
use Rattle.std.proofs.lemmas.Result.{IfOk-weaker}
use Rattle.lu_graph.specs.declared.expanding.Frontier.{Frontier}
use Rattle.lu_graph.specs.Expanding.{AreExpanded, Joins}
use Rattle.lu_graph.proofs.expanders.run_in.Goals as goal

pub loop-number-preserved : goal.loop-number-preserved
loop-number-preserved g c =
    let was = c.loop-number.invariant in
    let push = c.push_reserved.ensures in (
      omega (arith, was.0, push.len),
      omega (arith, was.1, push.capacity),
      subst (All (λ h. h.promise ≡ c.args.frontier)) (sym push.items) (All-push (λ h. h.promise ≡ c.args.frontier) c.loop-number.children.items c.in-Ok.child was.2 c.in-Ok.ensures.ok),
    )

pub returns-in-Ok-join_promised : goal.returns-in-Ok-join_promised
returns-in-Ok-join_promised g c =
    let lent = c.args.frontier in
    let mine = c.expand_range-mine.result in
    let others = c.in-Ok-join_promised.others.items in
    IfOk-weaker c.gather.result (Joins mine others) (AreExpanded lent)
    (λ all joins. joins lent.component.now lent.matrix.now lent.members.now lent.nodes.now lent.visited lent.end c.expand_range-mine.ensures
    (λ k d lt.
    (let long = c.in-Ok-join_promised.ensures.len in
    let many = c.in-Ok-join_promised.others.ok in
    let there = c.loop-number.children.ok in
    let kept = (c.in-Ok-join_promised.ensures.each k d (omega (arith, lt, long, many))).1 in
    let promised : kept.handle.promise ≡ lent = ap (λ h. h.promise) kept.handle_is ∙ c.loop-number.invariant.2 k kept.handle (omega (arith, lt, long, many, there)) in
    subst (λ (p : Frontier). AreExpanded p (slice_index_or others k d)) promised kept.kept)))
    c.gather.ensures

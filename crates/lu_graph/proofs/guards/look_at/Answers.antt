use Rattle.std.proofs.Common.{sym, ◌∙◌, ap}
use Rattle.std.proofs.lemmas.Option.{slice_get-get_or}
use Rattle.lu_graph.specs.Sections.{is_inside, without}
use Rattle.lu_graph.proofs.Critical.{round_both, settled_both, told_after}
use Rattle.lu_graph.proofs.guards.look_at.Goals as goal

pub returns-clause-round : goal.returns-clause-round
returns-clause-round c =
    let a = c.args.places.now.items in
    let b = c.leave-jumps.new.places.items in
    round_both c.args.code.now c.args.lock c.args.place _ (slice_get-get_or c.args.code.now c.args.place _ c.requires.within) a b c.leave-goes_on.new.places.items c.leave-jumps.result c.leave-goes_on.result
    (sym c.is_return.ensures ∙ c.if-is_return.false)
    (sym (told_after c.args.lock _ a c.deref.result.now c.args.place c.is_inside.result c.is_inside_after.result c.deref.ensures.value c.is_inside.ensures c.is_inside_after.ensures) ∙ c.if-is_inside_after.false)
    (c.leave-jumps.ensures.was ∙ ap (is_inside a) c.jump_from.ensures) (λ so. c.leave-jumps.ensures.left so ∙ ap (without a) c.jump_from.ensures) c.leave-jumps.ensures.same
    (c.leave-goes_on.ensures.was ∙ ap (is_inside b) c.onward_from.ensures) (λ so. c.leave-goes_on.ensures.left so ∙ ap (without b) c.onward_from.ensures) c.leave-goes_on.ensures.same

pub returns-clause-settled : goal.returns-clause-settled
returns-clause-settled c =
    let a = c.args.places.now.items in
    let b = c.leave-jumps.new.places.items in
    settled_both c.args.code.now c.args.lock c.args.place _ (slice_get-get_or c.args.code.now c.args.place _ c.requires.within) a b c.leave-goes_on.new.places.items c.leave-jumps.result c.leave-goes_on.result
    (sym c.is_return.ensures ∙ c.if-is_return.false)
    (sym (told_after c.args.lock _ a c.deref.result.now c.args.place c.is_inside.result c.is_inside_after.result c.deref.ensures.value c.is_inside.ensures c.is_inside_after.ensures) ∙ c.if-is_inside_after.false)
    (c.leave-jumps.ensures.was ∙ ap (is_inside a) c.jump_from.ensures) (λ so. c.leave-jumps.ensures.left so ∙ ap (without a) c.jump_from.ensures) c.leave-jumps.ensures.same
    (c.leave-goes_on.ensures.was ∙ ap (is_inside b) c.onward_from.ensures) (λ so. c.leave-goes_on.ensures.left so ∙ ap (without b) c.onward_from.ensures) c.leave-goes_on.ensures.same

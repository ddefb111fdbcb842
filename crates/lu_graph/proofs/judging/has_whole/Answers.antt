use Rattle.std.proofs.Common.{arith, Some, refl, sym, ap, ◌∙◌}
use Rattle.std.proofs.lemmas.Option.{slice_get-get_or, slice_get_within}
use Rattle.lu_graph.proofs.Wholes.{has_one, none_dead, none_other, told_alive}
use Rattle.lu_graph.proofs.judging.has_whole.Goals.{then-was_alive+else-is_whole, else-was_alive}
use Rattle.lu_graph.proofs.judging.has_whole.Goals as goal

pub returns-then-is_whole : goal.returns-then-is_whole
returns-then-is_whole c = (
  (λ x. has_one c.args.machine.now c.args.waiting c.args.members.now c.args.alive.now c.loop-number.number c.index-members-number.result
      (slice_get-get_or c.args.members.now c.loop-number.number c.index-members-number.result (omega arith) ∙ ap Some (sym c.index-members-number.is))
      c.deref.result.now c.deref.ensures.value c.is_whole.result c.is_whole.ensures
      (told_alive c.args.alive.now c.loop-number.number (sym c.was_alive.ensures ∙ c.if-was_alive.true)) c.if-is_whole.true),
  (λ x. refl),
)

pub loop-number-preserved : goal.loop-number-preserved
loop-number-preserved c = elim c.if-was_alive.branch [
  | then-was_alive+else-is_whole w ↦
      none_other c.args.machine.now c.args.waiting c.args.members.now c.args.alive.now c.loop-number.number w.index-members-number.result
      (slice_get-get_or c.args.members.now c.loop-number.number w.index-members-number.result (omega arith) ∙ ap Some (sym w.index-members-number.is))
      w.deref.result.now w.deref.ensures.value w.is_whole.result w.is_whole.ensures c.loop-number.invariant w.if-is_whole.false
  | else-was_alive w ↦
      none_dead c.args.machine.now c.args.waiting c.args.members.now c.args.alive.now c.loop-number.number c.loop-number.invariant
      (sym c.was_alive.ensures ∙ w.if-was_alive.false)
]

pub returns : goal.returns
returns c = (
  (λ x. absurd (cc)),
  (λ (i, q, at, there, whole). absurd (c.loop-number.invariant i q (let lt = slice_get_within c.args.members.now i q at in omega (arith, lt)) at there whole)),
)

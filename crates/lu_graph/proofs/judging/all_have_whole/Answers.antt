use Rattle.std.proofs.Common.{arith, rules, Some, false, true, ◌≡◌, refl, sym, ◌∙◌}
use Rattle.lu_graph.specs.Judging.{HasWhole}
use Rattle.lu_graph.proofs.Wholes.{all_more, all_there}
use Rattle.lu_graph.proofs.judging.all_have_whole.Goals.{then-is_waiting+else-not-has_whole, else-is_waiting}
use Rattle.lu_graph.proofs.judging.all_have_whole.Goals as goal

apart : false ≡ true → ⊥
apart e = cc

pub loop-thread-preserved : goal.loop-thread-preserved
loop-thread-preserved c = elim c.if-is_waiting.branch [
  | then-is_waiting+else-not-has_whole w ↦
      (let yes : w.has_whole.result ≡ true = search rules in
      all_more c.args.machine.now (λ t. HasWhole c.args.machine.now (Some t) c.args.members.now c.args.alive.now) c.loop-thread.thread c.loop-thread.invariant (λ x. w.has_whole.ensures.0 yes))
  | else-is_waiting w ↦
      all_more c.args.machine.now (λ t. HasWhole c.args.machine.now (Some t) c.args.members.now c.args.alive.now) c.loop-thread.thread c.loop-thread.invariant
      (λ x. absurd (apart (sym w.if-is_waiting.false ∙ (c.is_waiting.ensures ∙ x))))
]

pub returns : goal.returns
returns c = (
  (λ x. all_there c.args.machine.now (λ t. HasWhole c.args.machine.now (Some t) c.args.members.now c.args.alive.now) c.loop-thread.thread (omega (arith, c.threads-thread-end.ensures.value)) c.loop-thread.invariant),
  (λ x. refl),
)

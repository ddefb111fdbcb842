use Rattle.std.proofs.Common.{rules, arith, ◌≡◌, ◌-◌, ◌≤◌, ◌∙◌, ap, subst}
use Rattle.lu_test.specs.declared.schedule.Move.{Move}
use Rattle.lu_machine.specs.Steps.{Step}
use Rattle.lu_machine.specs.Undoes.{restored}
use Rattle.lu_lint.specs.Steps.{HasSteps, MayMove, open_after}
use Rattle.lu_lint.proofs.CountedSteps.{turn_counted, turn_over}
use Rattle.lu_lint.proofs.step_count.+steps_left.Goals as goal

pub loop-pick-preserved : goal.loop-pick-preserved
loop-pick-preserved t c =
    let s = c.args.machine.now in
    let bound = c.args.bound in
    let current = c.args.current in
    let thread = c.loop-thread.thread in
    let pick = c.loop-pick.pick in
    let after = c.apply-undo.new.self in
    let event = c.apply-undo.result.event in
    let rest = c.loop-pick.rest in
    let new = c.steps_left-rest.result in
    let next : Move = record { thread = thread; pick = pick } in
    let may : MayMove current thread = c.turns-first.ensures thread (omega arith) (omega arith) in
    let step : Step s next after event = subst (λ x. Step x next after event) c.loop-pick.invariant.machine c.apply-undo.ensures.step in
    let less : c.saturating_sub.result ≡ rest - 1 = search rules in
    let is : c.open_after-below.result ≡ open_after bound current thread event = search rules in
    let fewer : new ≤ rest - 1 = subst (λ x. new ≤ x) less c.steps_left-rest.ensures.few in
    let few : rest ≤ c.args.left = c.loop-pick.invariant.few in
    let below : HasSteps bound after (open_after bound current thread event) (rest - 1 - new) = subst (λ x. HasSteps bound after x (rest - 1 - new)) is (subst (λ x. HasSteps bound after c.open_after-below.result (x - new)) less c.steps_left-rest.ensures.steps) in
    record {
      machine = c.undo.ensures ∙ (ap (restored c.apply-undo.result) c.steps_left-rest.ensures.home ∙ (c.apply-undo.ensures.back ∙ c.loop-pick.invariant.machine));
      few = omega (arith, few, fewer);
      steps = turn_counted bound s current thread pick after event may step c.args.left rest new few fewer below c.loop-pick.invariant.steps;
    }

pub loop-thread-preserved : goal.loop-thread-preserved
loop-thread-preserved t c = record {
  machine = c.loop-pick.invariant.machine;
  few = c.loop-pick.invariant.few;
  steps = turn_over c.args.bound c.args.machine.now c.args.current c.loop-thread.thread c.loop-pick.pick (c.args.left - c.loop-pick.rest) c.loop-pick.invariant.steps;
}

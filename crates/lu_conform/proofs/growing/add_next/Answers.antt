use Rattle.std.proofs.Common.{arith, ◌≤◌, length, Option, refl, ◌∙◌, subst}
use Rattle.lu_test.specs.declared.schedule.Move.{Move}
use Rattle.lu_machine.specs.declared.event.Event.{Event}
use Rattle.lu_machine.specs.Steps.{Step, picks_of}
use Rattle.lu_conform.specs.Growing.{AddsFollowing, arrived}
use Rattle.lu_conform.proofs.Grown.{below_all, below_more, below_none, below_turn}
use Rattle.lu_conform.proofs.growing.add_next.Goals as goal

pub loop-thread-init : goal.loop-thread-init
loop-thread-init c = record { machine = refl; below = below_none c.args.machine.now c.args.so_far.events.now c.args.so_far.seen c.args.so_far.place c.args.stages.now.entries }

pub loop-pick-preserved : goal.loop-pick-preserved
loop-pick-preserved c =
    let m : Move = record { thread = c.loop-thread.thread; pick = c.loop-pick.pick } in
    let home = c.loop-pick.invariant.machine in
    let s = c.args.machine.now in
    let h = c.args.so_far.events.now in
    let made = c.apply-undo.new.self in
    let step : Step s m made c.apply-undo.result.event = subst (λ x. Step x m made c.apply-undo.result.event) home c.apply-undo.ensures.step in
    let adds : AddsFollowing made h c.args.so_far.seen c.apply-undo.result.event (arrived c.args.so_far.place m) c.loop-pick.stages.entries c.add_after.new.stages.entries =
    subst (λ (e : Option Event). AddsFollowing made h c.args.so_far.seen e (arrived c.args.so_far.place m) c.loop-pick.stages.entries c.add_after.new.stages.entries) c.event.ensures c.in_ok-add_after.ensures in
    record {
      machine = c.undo.ensures ∙ (c.apply-undo.ensures.back ∙ home);
      below = below_more s h c.args.so_far.seen c.args.so_far.place c.args.stages.now.entries c.loop-thread.thread c.loop-pick.pick c.loop-pick.stages.entries c.add_after.new.stages.entries made c.apply-undo.result.event step c.loop-pick.invariant.below adds;
    }

pub loop-thread-preserved : goal.loop-thread-preserved
loop-thread-preserved c =
    let all : picks_of c.loop-thread.machine c.loop-thread.thread ≤ c.loop-pick.pick = rw (← c.picks-pick-end.ensures) (omega arith) in
    let here : picks_of c.args.machine.now c.loop-thread.thread ≤ c.loop-pick.pick = subst (λ x. picks_of x c.loop-thread.thread ≤ c.loop-pick.pick) c.loop-thread.invariant.machine all in
    record {
      machine = c.loop-pick.invariant.machine;
      below = below_turn c.args.machine.now c.args.so_far.events.now c.args.so_far.seen c.args.so_far.place c.args.stages.now.entries c.loop-thread.thread c.loop-pick.pick c.loop-pick.stages.entries here c.loop-pick.invariant.below;
    }

pub returns-clause-next : goal.returns-clause-next
returns-clause-next c =
    let past : length c.args.machine.now.threads ≤ c.loop-thread.thread = omega (arith, c.threads-thread-end.ensures.value) in
    below_all c.args.machine.now c.args.so_far.events.now c.args.so_far.seen c.args.so_far.place c.args.stages.now.entries c.loop-thread.thread c.loop-thread.stages.entries past c.loop-thread.invariant.below

use Rattle.std.proofs.Common.{arith, ◌≤◌, ◌+◌, Option, refl, sym, ◌∙◌, ap, subst}
use Rattle.lu_test.specs.declared.schedule.Move.{Move}
use Rattle.lu_machine.specs.declared.event.Event.{Event}
use Rattle.lu_machine.specs.Steps.{Step, picks_of}
use Rattle.lu_machine.proofs.StepLaws.{step_feasible}
use Rattle.lu_graph.specs.declared.expanding.Found.TheVariants.{Known, New}
use Rattle.lu_graph.specs.Expanding.{FindsAt}
use Rattle.lu_graph.specs.First.{GoesFirst}
use Rattle.lu_graph.proofs.Expanded.{AreFoundBelow, below_first, below_known, below_last, below_new, below_next}
use Rattle.lu_graph.proofs.Sized.{step_sized}
use Rattle.lu_graph.proofs.expanding.find_next.Goals as goal
use Rattle.lu_graph.proofs.expanding.find_next.Goals.{in-Known, in-New+in_ok-push-in-New}

pub loop-thread-init : goal.loop-thread-init
loop-thread-init c =
    let turns = c.turns_at-turns.result in
    record {
      machine = refl;
      past = omega arith;
      below = subst (λ xs. AreFoundBelow c.args.machine.now c.args.from.now c.args.nodes.now xs (record { thread = turns.first; pick = 0 })) (sym c.clear.ensures.items)
          (below_first c.args.machine.now c.args.from.now c.args.nodes.now turns.first turns.end c.turns_at-turns.ensures);
    }

pub find-found-requires : goal.find-found-requires
find-found-requires c =
    let m : Move = record { thread = c.loop-thread.thread; pick = c.loop-pick.pick } in
    let made = c.apply-undo.new.self in
    let step : Step c.args.machine.now m made c.apply-undo.result.event = subst (λ x. Step x m made c.apply-undo.result.event) c.loop-pick.invariant.machine c.apply-undo.ensures.step in
    step_sized c.args.machine.now m made c.apply-undo.result.event step c.requires.sized

pub loop-pick-preserved : goal.loop-pick-preserved
loop-pick-preserved c =
    let m : Move = record { thread = c.loop-thread.thread; pick = c.loop-pick.pick } in
    let home = c.loop-pick.invariant.machine in
    let s = c.args.machine.now in
    let from = c.args.from.now in
    let nodes = c.args.nodes.now in
    let made = c.apply-undo.new.self in
    let event = c.apply-undo.result.event in
    let step : Step s m made event = subst (λ x. Step x m made event) home c.apply-undo.ensures.step in
    let goes : GoesFirst s m = (c.turns_at-turns.ensures m (step_feasible s m made event step)).1 (c.loop-thread.invariant.past, c.loop-thread-test.true) in
    let below = c.loop-pick.invariant.below in
    record {
      machine = c.undo.ensures ∙ (c.apply-undo.ensures.back ∙ home);
      below = elim c.match-found.branch as (λ _. AreFoundBelow s from nodes c.match-found.next.items (record { thread = c.loop-thread.thread; pick = c.loop-pick.pick + 1 })) [
        | in-Known w ↦
            (let finds : FindsAt made from event nodes Known = subst (λ (e : Option Event). FindsAt made from e nodes Known) c.event.ensures (subst (FindsAt made from c.event.result nodes) w.in-Known.is c.find-found.ensures) in
            subst (λ x. AreFoundBelow s from nodes x.items (record { thread = c.loop-thread.thread; pick = c.loop-pick.pick + 1 })) (sym w.next-is)
            (below_known s from nodes c.loop-thread.thread c.loop-pick.pick c.loop-pick.next.items made event c.apply-undo.ensures.range goes step below finds))
        | in-New+in_ok-push-in-New w ↦
            (let finds : FindsAt made from event nodes (New w.in-New.row) = subst (λ (e : Option Event). FindsAt made from e nodes (New w.in-New.row)) c.event.ensures (subst (FindsAt made from c.event.result nodes) w.in-New.is c.find-found.ensures) in
            subst (λ x. AreFoundBelow s from nodes x (record { thread = c.loop-thread.thread; pick = c.loop-pick.pick + 1 })) (sym (ap (λ x. x.items) w.next-is ∙ w.in_ok-push-in-New.ensures.items))
            (below_new s from nodes c.loop-thread.thread c.loop-pick.pick c.loop-pick.next.items made event c.apply-undo.ensures.range goes step below w.in-New.row finds))
      ];
    }

pub loop-thread-preserved : goal.loop-thread-preserved
loop-thread-preserved c =
    let all : picks_of c.loop-thread.machine c.loop-thread.thread ≤ c.loop-pick.pick = rw (← c.picks-pick-end.ensures) (omega arith) in
    let here : picks_of c.args.machine.now c.loop-thread.thread ≤ c.loop-pick.pick = subst (λ x. picks_of x c.loop-thread.thread ≤ c.loop-pick.pick) c.loop-thread.invariant.machine all in
    let past = c.loop-thread.invariant.past in
    record {
      machine = c.loop-pick.invariant.machine;
      past = omega (arith, past);
      below = below_next c.args.machine.now c.args.from.now c.args.nodes.now c.loop-thread.thread c.loop-pick.pick c.loop-pick.next.items here c.loop-pick.invariant.below;
    }

pub returns-clause-next : goal.returns-clause-next
returns-clause-next c = λ sure.
    (let turns = c.turns_at-turns.result in
    below_last c.args.machine.now c.args.from.now c.args.nodes.now turns.first c.loop-thread.thread turns.end c.loop-thread.next.items c.turns_at-turns.ensures c.loop-thread-test.false c.loop-thread.invariant.below)

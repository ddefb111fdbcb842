use Rattle.std.proofs.Common.{arith, ◌≤◌, [], length, refl, sym, ◌∙◌, subst}
use Rattle.std.proofs.lemmas.List.{append-nil}
use Rattle.lu_test.specs.declared.schedule.Move.{Move}
use Rattle.lu_test.specs.Schedule.{IsMove}
use Rattle.lu_machine.specs.States.{State}
use Rattle.lu_machine.specs.Steps.{Step, picks_of}
use Rattle.lu_machine.proofs.Moves.{feasible_is_move}
use Rattle.lu_machine.proofs.StepLaws.{step_feasible}
use Rattle.lu_graph.proofs.Searching.{below_all, below_more, below_none, below_turn, stays_more}
use Rattle.lu_graph.proofs.discovering.discover_next.Goals as goal

pub loop-thread-init : goal.loop-thread-init
loop-thread-init c = record { machine = refl; stay = ([], sym (append-nil c.args.found.now.positions.keys)); below = below_none c.args.machine.now c.args.number c.args.found.now }

pub loop-pick-preserved : goal.loop-pick-preserved
loop-pick-preserved c =
    let m : Move = record { thread = c.loop-thread.thread; pick = c.loop-pick.pick } in
    let home = c.loop-pick.invariant.machine in
    let now = c.args.machine.now in
    let made = c.apply-undo.new.self in
    let step : Step now m made c.apply-undo.result.event = subst (λ (x : State). Step x m made c.apply-undo.result.event) home c.apply-undo.ensures.step in
    let move : IsMove m = feasible_is_move now c.requires c.threads-thread-end.ensures.few m (step_feasible now m made c.apply-undo.result.event step) in
    record {
      machine = c.undo.ensures ∙ (c.apply-undo.ensures.back ∙ home);
      stay = stays_more made c.args.number m c.args.found.now c.loop-pick.found c.discover.new.found c.loop-pick.invariant.stay c.in_ok-discover.ensures;
      below = below_more now c.args.number c.loop-thread.thread c.loop-pick.pick c.args.found.now c.loop-pick.found c.discover.new.found made c.apply-undo.result.event move step c.loop-pick.invariant.below c.in_ok-discover.ensures;
    }

pub loop-thread-preserved : goal.loop-thread-preserved
loop-thread-preserved c =
    let all : picks_of c.loop-thread.machine c.loop-thread.thread ≤ c.loop-pick.pick = rw (← c.picks-pick-end.ensures) (omega arith) in
    let here : picks_of c.args.machine.now c.loop-thread.thread ≤ c.loop-pick.pick = subst (λ (x : State). picks_of x c.loop-thread.thread ≤ c.loop-pick.pick) c.loop-thread.invariant.machine all in
    record {
      machine = c.loop-pick.invariant.machine;
      stay = c.loop-pick.invariant.stay;
      below = below_turn c.args.machine.now c.args.number c.loop-thread.thread c.loop-pick.pick c.args.found.now c.loop-pick.found here c.loop-pick.invariant.below;
    }

pub returns-clause-next : goal.returns-clause-next
returns-clause-next c =
    let past : length c.args.machine.now.threads ≤ c.loop-thread.thread = omega (arith, c.threads-thread-end.ensures.value) in
    below_all c.args.machine.now c.args.number c.loop-thread.thread c.args.found.now c.loop-thread.found past c.loop-thread.invariant.below

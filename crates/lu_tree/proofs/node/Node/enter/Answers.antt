use Rattle.std.proofs.Common.{◌≡◌, ◌++◌, [], None, Some, sym, ◌∙◌, subst}
use Rattle.std.proofs.lemmas.List.{append-nil}
use Rattle.lu_machine.specs.Events.{IsEventInRange}
use Rattle.lu_machine.specs.Runs.{with_event}
use Rattle.lu_machine.specs.States.{progress}
use Rattle.lu_machine.specs.Steps.{Step}
use Rattle.lu_history.specs.Standing.{Agree}
use Rattle.lu_history.proofs.Following.{step_agrees, step_fits}
use Rattle.lu_tree.proofs.node.Node.enter.Goals as goal

pub push-requires : goal.push-requires
push-requires g c =
    let is : c.apply_as-undo.result.event ≡ Some c.in-Some.event = sym c.event.ensures ∙ c.in-Some.is in
    let step : Step c.args.self.now.machine c.args.next c.apply_as-undo.new.self (Some c.in-Some.event) = subst (λ e. Step c.args.self.now.machine c.args.next c.apply_as-undo.new.self e) is c.apply_as-undo.ensures.step in
    let range : IsEventInRange c.in-Some.event = rw is at c.apply_as-undo.ensures.range in
    step_fits c.args.self.now.machine c.args.next c.apply_as-undo.new.self c.in-Some.event c.args.self.now.trail.history c.requires.agree step range

pub returns-in-Some-clause-agree : goal.returns-in-Some-clause-agree
returns-in-Some-clause-agree g c =
    let is : c.apply_as-undo.result.event ≡ Some c.in-Some.event = sym c.event.ensures ∙ c.in-Some.is in
    let agree : Agree (progress c.apply_as-undo.new.self) (c.args.self.now.trail.history ++ with_event c.apply_as-undo.result.event []) = step_agrees c.args.self.now.machine c.args.next c.apply_as-undo.new.self c.apply_as-undo.result.event c.args.self.now.trail.history c.requires.agree c.apply_as-undo.ensures.step in
    rw c.push.ensures.history (rw is at agree)

pub returns-in-None-clause-agree : goal.returns-in-None-clause-agree
returns-in-None-clause-agree g c =
    let is : c.apply_as-undo.result.event ≡ None = sym c.event.ensures ∙ c.in-None.is in
    let agree : Agree (progress c.apply_as-undo.new.self) (c.args.self.now.trail.history ++ with_event c.apply_as-undo.result.event []) = step_agrees c.args.self.now.machine c.args.next c.apply_as-undo.new.self c.apply_as-undo.result.event c.args.self.now.trail.history c.requires.agree c.apply_as-undo.ensures.step in
    rw append-nil at (rw is at agree)

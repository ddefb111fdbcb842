use Rattle.std.proofs.Common.{IfOk, sym, subst}
use Rattle.lu_component.specs.Component.{Component}
use Rattle.lu_horizon.specs.Dead.{IsDeadTable}
use Rattle.lu_graph.specs.Guards.{TellsGuarded}
use Rattle.lu_machine.specs.Starts.{IsStart}
use Rattle.lu_machine.proofs.Starting.{start_component, start_matrix}
use Rattle.lu_always.specs.StepSearch.{IsVerdictBy}
use Rattle.lu_always.proofs.steps.search.Goals as goal

pub search_from-requires-clause-starts : goal.search_from-requires-clause-starts
search_from-requires-clause-starts g c κs within =
    let s = c.in_ok-machine.machine in
    let is = c.in_ok-machine.ensures.starts in
    subst (λ x. IsStart x s.matrix s) (sym (start_component c.args.component.now c.args.matrix.now s is))
    (subst (λ x. IsStart c.args.component.now x s) (sym (start_matrix c.args.component.now c.args.matrix.now s is)) is)

pub search_from-requires-clause-dead : goal.search_from-requires-clause-dead
search_from-requires-clause-dead g c κs within =
    subst (λ (x : Component). IsDeadTable x c.args.given.dead.now) (sym (start_component c.args.component.now c.args.matrix.now c.in_ok-machine.machine c.in_ok-machine.ensures.starts)) c.requires.dead

pub search_from-requires-clause-guards : goal.search_from-requires-clause-guards
search_from-requires-clause-guards g c κs within =
    subst (λ (x : Component). TellsGuarded x c.in_ok-guards.guards) (sym (start_component c.args.component.now c.args.matrix.now c.in_ok-machine.machine c.in_ok-machine.ensures.starts)) c.in_ok-guards.ensures

pub returns : goal.returns
returns g c =
    let s = c.in_ok-machine.machine in
    let is = c.in_ok-machine.ensures.starts in
    subst (λ x. IfOk c.search_from.result (IsVerdictBy c.args.given x c.args.matrix.now)) (start_component c.args.component.now c.args.matrix.now s is)
    (subst (λ x. IfOk c.search_from.result (IsVerdictBy c.args.given s.component x)) (start_matrix c.args.component.now c.args.matrix.now s is) c.search_from.ensures)

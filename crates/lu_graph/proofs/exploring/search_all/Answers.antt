use Rattle.std.proofs.Common.{sym, subst}
use Rattle.lu_component.specs.Component.{Component}
use Rattle.lu_graph.specs.Guards.{TellsGuarded}
use Rattle.lu_graph.specs.Rows.{KnowsDead}
use Rattle.lu_graph.proofs.exploring.search_all.Goals as goal

pub search_from-requires-clause-dead : goal.search_from-requires-clause-dead
search_from-requires-clause-dead g c =
    let known : KnowsDead c.component.result.now c.in_ok-dead.dead = record { sound = c.in_ok-dead.ensures.sound; tells = c.in_ok-dead.ensures.exact } in
    subst (KnowsDead c.args.machine.now.component) (sym c.new-nodes.ensures.dead) (subst (λ x. KnowsDead x c.in_ok-dead.dead) c.component.ensures known)

pub search_from-requires-clause-guards : goal.search_from-requires-clause-guards
search_from-requires-clause-guards g c =
    subst (λ (d : Component). TellsGuarded d c.in_ok-guards.guards) c.component-2.ensures c.in_ok-guards.ensures

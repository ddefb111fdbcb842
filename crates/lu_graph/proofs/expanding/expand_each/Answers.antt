use Rattle.std.proofs.Common.{arith, sym, ◌∙◌, subst}
use Rattle.lu_component.specs.Component.{Component}
use Rattle.lu_test.specs.Matrix.{Matrix}
use Rattle.lu_machine.proofs.Starting.{start_component, start_matrix}
use Rattle.lu_graph.specs.Expanding.{AllCanStand, AreFoundBetween}
use Rattle.lu_graph.specs.Guards.{TellsGuarded}
use Rattle.lu_graph.proofs.Expanded.{between_nothing}
use Rattle.lu_graph.proofs.expanding.expand_each.Goals as goal

pub expand-requires-clause-stand : goal.expand-requires-clause-stand
expand-requires-clause-stand c =
    let was = c.loop-number.invariant in
    let m = c.loop-number.machine in
    let lent = c.args.frontier in
    subst (λ x. AllCanStand m.component x lent.nodes.now) (sym was.matrix_is) (subst (λ d. AllCanStand d lent.matrix.now lent.nodes.now) (sym was.component) c.requires.stand)

-- the same arrays are guarded
pub expand-requires-clause-guards : goal.expand-requires-clause-guards
expand-requires-clause-guards c = subst (λ (d : Component). TellsGuarded d c.args.frontier.guards.now) (sym c.loop-number.invariant.component) c.requires.guards

pub loop-number-init : goal.loop-number-init
loop-number-init c =
    let lent = c.args.frontier in
    record {
      component = start_component lent.component.now lent.matrix.now c.in_ok-machine.machine c.in_ok-machine.ensures.starts;
      matrix_is = start_matrix lent.component.now lent.matrix.now c.in_ok-machine.machine c.in_ok-machine.ensures.starts;
      past = omega arith;
      found = between_nothing lent.component.now lent.matrix.now lent.members.now lent.nodes.now lent.visited lent.end c.new-found.result c.new-found.ensures.nodes c.new-found.ensures.rows;
    }

pub loop-number-preserved : goal.loop-number-preserved
loop-number-preserved c =
    let lent = c.args.frontier in
    let was = c.loop-number.invariant in
    let home = c.in_ok-expand.ensures.home in
    let members = lent.members.now in
    let nodes = lent.nodes.now in
    let old = c.loop-number.found in
    let new = c.expand.new.all in
    let more : AreFoundBetween c.loop-number.machine.component c.loop-number.machine.matrix members nodes lent.visited lent.end old → AreFoundBetween c.loop-number.machine.component c.loop-number.machine.matrix members nodes lent.visited lent.end new =
    c.in_ok-expand.ensures.all lent.visited lent.end (omega arith) (omega arith) in
    let as_matrix = subst (λ (x : Matrix). AreFoundBetween c.loop-number.machine.component x members nodes lent.visited lent.end old → AreFoundBetween c.loop-number.machine.component x members nodes lent.visited lent.end new) was.matrix_is more in
    let as_component = subst (λ (d : Component). AreFoundBetween d lent.matrix.now members nodes lent.visited lent.end old → AreFoundBetween d lent.matrix.now members nodes lent.visited lent.end new) was.component as_matrix in
    record {
      component = home.component ∙ was.component;
      matrix_is = home.matrix_is ∙ was.matrix_is;
      past = omega arith;
      found = as_component was.found;
    }

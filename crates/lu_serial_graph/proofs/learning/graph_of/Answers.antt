use Rattle.std.proofs.Common.{◌≡◌, ◌++◌, ◌∷◌, [], List, false, sym, ◌∙◌, ap, arith}
use Rattle.lu_component.specs.Component.{Component}
use Rattle.lu_test.specs.Matrix.{Matrix}
use Rattle.lu_machine.specs.declared.position.Position.{Position}
use Rattle.lu_machine.specs.States.{State}
use Rattle.lu_client.proofs.Played.{IsReady, ready}
use Rattle.lu_serial_graph.specs.Playing.{state_at}
use Rattle.lu_serial_graph.specs.Exploring.{IsKnown, IsReached, Offends}
use Rattle.lu_serial_graph.proofs.Sifting.{stands_here}
use Rattle.lu_serial_graph.proofs.Explored.{reached_same}
use Rattle.lu_serial_graph.proofs.Graphed.{learnt, starts_with}
use Rattle.lu_serial_graph.proofs.learning.graph_of.Goals as goal

pub explore-requires-clause-reached : goal.explore-requires-clause-reached
explore-requires-clause-reached g c =
    let x : Component = c.args.test.component.now in
    let matrix : Matrix = c.args.test.matrix.now in
    let m : State = c.args.machine in
    let p : Position = c.in_ok-position.field-0 in
    let start = c.requires.start in
    let at : IsReady x matrix m = ready x matrix m start in
    let here : state_at x matrix p ≡ m = sym (stands_here m x matrix p at.component at.matrix_is) ∙ c.in_ok-position.ensures.here in
    let items : c.push.new.self.items ≡ p ∷ [] = c.in_ok-push.ensures.items ∙ ap (λ (y : List Position). y ++ p ∷ []) c.new-positions.ensures.items in
    let reached : IsReached x matrix false (p ∷ []) 17 = (m, [], start, starts_with x matrix m p start here, omega arith) in
    let component = ap (λ (y : State). y.component) c.machine.view_is ∙ at.component in
    let matrix_is = ap (λ (y : State). y.matrix) c.machine.view_is ∙ at.matrix_is in
    rw items (reached_same x c.machine.inside.component.now matrix c.machine.inside.matrix.now false (p ∷ []) 17 component matrix_is reached)

pub returns-in-Some-clause-graph : goal.returns-in-Some-clause-graph
returns-in-Some-clause-graph g c = λ s is_start.
    (let x : Component = c.args.test.component.now in
    let matrix : Matrix = c.args.test.matrix.now in
    let m : State = c.args.machine in
    let p : Position = c.in_ok-position.field-0 in
    let start = c.requires.start in
    let at : IsReady x matrix m = ready x matrix m start in
    let here : state_at x matrix p ≡ m = sym (stands_here m x matrix p at.component at.matrix_is) ∙ c.in_ok-position.ensures.here in
    let items : c.push.new.self.items ≡ p ∷ [] = c.in_ok-push.ensures.items ∙ ap (λ (y : List Position). y ++ p ∷ []) c.new-positions.ensures.items in
    let component = ap (λ (y : State). y.component) c.machine.view_is ∙ at.component in
    let matrix_is = ap (λ (y : State). y.matrix) c.machine.view_is ∙ at.matrix_is in
    let e = rw c.in-Some.is at c.in_ok-explore.ensures in
    let known : IsKnown x matrix c.args.bound c.explore.new.search.table false (p ∷ []) c.in-Some.root = rw (component, matrix_is, items) at e.here in
    learnt x matrix c.args.bound c.explore.new.search.table p c.in-Some.root _ s is_start m start here known c.of.ensures)

pub returns-in-None-clause-offence : goal.returns-in-None-clause-offence
returns-in-None-clause-offence g c =
    let x : Component = c.args.test.component.now in
    let matrix : Matrix = c.args.test.matrix.now in
    let m : State = c.args.machine in
    let at : IsReady x matrix m = ready x matrix m c.requires.start in
    let component = ap (λ (y : State). y.component) c.machine.view_is ∙ at.component in
    let matrix_is = ap (λ (y : State). y.matrix) c.machine.view_is ∙ at.matrix_is in
    let offends : Offends x matrix c.args.bound = rw (c.in-None.is, component, matrix_is) at c.in_ok-explore.ensures in
    offends

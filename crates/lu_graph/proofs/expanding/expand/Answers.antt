use Rattle.std.proofs.Common.{sym, ◌∙◌, ap, subst}
use Rattle.lu_component.specs.Component.{Component}
use Rattle.lu_machine.specs.States.{State}
use Rattle.lu_graph.specs.Expanding.{AreNextOf}
use Rattle.lu_graph.specs.Guards.{TellsGuarded}
use Rattle.lu_graph.specs.Rows.{CanStandAtRow}
use Rattle.lu_graph.proofs.Among.{all_at}
use Rattle.lu_graph.proofs.Expanded.{found_more, same_runs}
use Rattle.lu_graph.proofs.Waiting.{sized_there}
use Rattle.lu_graph.proofs.expanding.expand.Goals as goal

pub stand_at-requires : goal.stand_at-requires
stand_at-requires c =
    let m = c.args.machine.now in
    let nodes = c.args.nodes.now in
    all_at (CanStandAtRow m.component m.matrix nodes.parts) nodes.rows.keys c.requires.stand c.args.number c.in-Some.row (sym c.row.ensures ∙ c.in-Some.is)

pub find_next-requires-clause-sized : goal.find_next-requires-clause-sized
find_next-requires-clause-sized c =
    let m = c.args.machine.now in
    let nodes = c.args.nodes.now in
    let one = all_at (CanStandAtRow m.component m.matrix nodes.parts) nodes.rows.keys c.requires.stand c.args.number c.in-Some.row (sym c.row.ensures ∙ c.in-Some.is) in
    sized_there m c.stand_at.new.machine one.0 one.2 (c.stand_at.ensures one.0 one.1)

-- the same arrays are guarded
pub find_next-requires-clause-guards : goal.find_next-requires-clause-guards
find_next-requires-clause-guards c =
    let m = c.args.machine.now in
    let nodes = c.args.nodes.now in
    let one = all_at (CanStandAtRow m.component m.matrix nodes.parts) nodes.rows.keys c.requires.stand c.args.number c.in-Some.row (sym c.row.ensures ∙ c.in-Some.is) in
    subst (λ (d : Component). TellsGuarded d c.args.guards.now) (sym (ap (λ (x : State). x.component) (c.stand_at.ensures one.0 one.1))) c.requires.guards

pub returns-in_ok-add-clause-home : goal.returns-in_ok-add-clause-home
returns-in_ok-add-clause-home c =
    let m = c.args.machine.now in
    let nodes = c.args.nodes.now in
    let one = all_at (CanStandAtRow m.component m.matrix nodes.parts) nodes.rows.keys c.requires.stand c.args.number c.in-Some.row (sym c.row.ensures ∙ c.in-Some.is) in
    same_runs m c.find_next.new.machine one.0 (c.in_ok-find_next.ensures.home ∙ c.stand_at.ensures one.0 one.1)

pub returns-else-branch-clause-home : goal.returns-else-branch-clause-home
returns-else-branch-clause-home c =
    let m = c.args.machine.now in
    let nodes = c.args.nodes.now in
    let one = all_at (CanStandAtRow m.component m.matrix nodes.parts) nodes.rows.keys c.requires.stand c.args.number c.in-Some.row (sym c.row.ensures ∙ c.in-Some.is) in
    same_runs m c.find_next.new.machine one.0 (c.in_ok-find_next.ensures.home ∙ c.stand_at.ensures one.0 one.1)

pub returns-in_ok-add-clause-all : goal.returns-in_ok-add-clause-all
returns-in_ok-add-clause-all c =
    let m = c.args.machine.now in
    let nodes = c.args.nodes.now in
    let row = c.in-Some.row in
    let next = subst (AreNextOf c.stand_at.new.machine row nodes) (sym c.deref.ensures.value) (c.in_ok-find_next.ensures.next c.if-branch.true) in
    found_more c.args.members.now m nodes c.args.number row (sym c.row.ensures ∙ c.in-Some.is) c.stand_at.new.machine c.stand_at.ensures c.list.result.now c.list.ensures c.is_good-is_good.result c.is_good-is_good.ensures
    c.args.all.now c.add.new.self c.deref.result.now next c.in_ok-add.ensures

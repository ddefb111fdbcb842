use Rattle.std.proofs.Common.{sym, subst}
use Rattle.lu_machine.specs.Starts.{CanRun}
use Rattle.lu_graph.specs.Expanding.{AllCanStand, AreFoundBetween}
use Rattle.lu_graph.specs.Guards.{TellsGuarded}
use Rattle.lu_graph.proofs.Ahead.{ahead_alone, all_stand}
use Rattle.lu_graph.proofs.exploring.look_ahead.Goals as goal

pub expand-requires : goal.expand-requires
expand-requires g c =
    let m = c.args.machine.now in
    let v = c.requires.visited in
    let nodes = c.args.nodes.now in
    record {
      guards = subst (λ d. TellsGuarded d c.args.guards.now) (sym c.component.ensures) c.requires.guards;
      runs = subst (CanRun c.component.result.now) (sym c.matrix.ensures) (subst (λ d. CanRun d m.matrix) (sym c.component.ensures) c.requires.runs);
      stand = subst (λ x. AllCanStand c.component.result.now x nodes) (sym c.matrix.ensures)
          (subst (λ d. AllCanStand d m.matrix nodes) (sym c.component.ensures) (all_stand c.args.members.now m.component m.matrix c.requires.runs.settles v.0 c.args.visited v.2 nodes v.1));
    }

pub returns-in_ok-put_ahead-clause-more : goal.returns-in_ok-put_ahead-clause-more
returns-in_ok-put_ahead-clause-more g c = λ list hold known.
    (let m = c.args.machine.now in
    let members = c.args.members.now in
    let nodes = c.args.nodes.now in
    let from = c.args.visited in
    let end = c.args.end in
    let before = c.in_ok-ahead.field-0 in
    let one = subst (λ x. AreFoundBetween c.component.result.now x members nodes from end before) c.matrix.ensures c.in_ok-ahead.ensures in
    let fresh = subst (λ d. AreFoundBetween d m.matrix members nodes from end before) c.component.ensures one in
    (c.in_ok-put_ahead.ensures members m.component m.matrix from end list hold known fresh).0)

pub returns-in_ok-put_ahead-clause-left : goal.returns-in_ok-put_ahead-clause-left
returns-in_ok-put_ahead-clause-left g c = λ list hold known.
    (let m = c.args.machine.now in
    let members = c.args.members.now in
    let nodes = c.args.nodes.now in
    let from = c.args.visited in
    let end = c.args.end in
    let before = c.in_ok-ahead.field-0 in
    let one = subst (λ x. AreFoundBetween c.component.result.now x members nodes from end before) c.matrix.ensures c.in_ok-ahead.ensures in
    let fresh = subst (λ d. AreFoundBetween d m.matrix members nodes from end before) c.component.ensures one in
    (c.in_ok-put_ahead.ensures members m.component m.matrix from end list hold known fresh).1)

pub returns-else-is_empty-clause-more : goal.returns-else-is_empty-clause-more
returns-else-is_empty-clause-more g c = λ list hold known.
    ahead_alone c.args.members.now c.args.machine.now.component c.args.machine.now.matrix c.args.visited c.args.end list c.args.nodes.now hold

pub returns-else-is_empty-clause-left : goal.returns-else-is_empty-clause-left
returns-else-is_empty-clause-left g c = λ list hold known. c.requires.ahead

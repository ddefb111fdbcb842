use Rattle.std.proofs.Common.{arith, rules, ◌≤◌, length, refl, sym, ◌∙◌, subst}
use Rattle.std.proofs.lemmas.Option.{slice_get_within}
use Rattle.lu_component.specs.Component.{Component}
use Rattle.lu_graph.specs.declared.row.Parts.{Parts}
use Rattle.lu_graph.specs.Growing.{state_of}
use Rattle.lu_graph.specs.Guards.{TellsGuarded}
use Rattle.lu_graph.specs.Rows.{CanStandAtRow, IsRowOf, KnowsDead}
use Rattle.lu_graph.specs.Visiting.{AreVisited}
use Rattle.lu_graph.proofs.Expanded.{found_same}
use Rattle.lu_graph.proofs.Ahead.{there_then}
use Rattle.lu_graph.proofs.Visiting.{can_stand, few_nodes, from_same, many_or_few, too_many, visited_next, visited_then}
use Rattle.lu_graph.proofs.Waiting.{all_differ, next_there, none_waits}
use Rattle.lu_graph.proofs.exploring.are_few.Goals as goal

pub returns-then-len-most-clause-few : goal.returns-then-len-most-clause-few
returns-then-len-most-clause-few g c = λ s is.
    (let v = c.loop-at.invariant.visited in
    let many = v.1.many in (
      (λ x. absurd (cc)),
      (λ few. absurd (too_many c.args.members.now c.args.machine.now.component c.args.machine.now.matrix c.requires.runs.settles c.loop-at.nodes.parts.dead c.loop-at.invariant.visited.3 v.0 c.loop-at.at v.2 c.args.most (all_differ c.args.members.now c.loop-at.nodes v.0 v.1 c.len.ensures.unique) (omega (arith, many, c.len.ensures.len)) s is few)),
    ))

pub returns-in-None-clause-few : goal.returns-in-None-clause-few
returns-in-None-clause-few g c = λ s is.
    (let v = c.loop-at.invariant.visited in
    let many = v.1.many in
    let past : length v.0 ≤ c.loop-at.at = none_waits c.args.members.now c.loop-at.nodes v.0 v.1 c.loop-at.at (sym c.in-None.is ∙ c.row.ensures) in
    let few : length v.0 ≤ c.args.most = omega (arith, many, c.len.ensures.len) in (
      (λ x. few_nodes c.args.members.now c.args.machine.now.component c.args.machine.now.matrix c.requires.runs.settles c.loop-at.nodes.parts.dead c.loop-at.invariant.visited.3 v.0 c.loop-at.at v.2 c.args.most past few s is),
      (λ x. refl),
    ))

pub look_ahead-requires-clause-visited : goal.look_ahead-requires-clause-visited
look_ahead-requires-clause-visited g c =
    let v = c.loop-at.invariant.visited in
    let m = c.loop-at.machine in (
      v.0,
      v.1,
      from_same m.component c.args.machine.now.component m.matrix c.args.machine.now.matrix c.loop-at.invariant.component c.loop-at.invariant.matrix_is (λ s. AreVisited c.args.members.now s v.0 c.loop-at.at) v.2,
      subst (λ x. KnowsDead x c.loop-at.nodes.parts.dead) (sym c.loop-at.invariant.component) v.3,
    )

pub go_through-requires-clause-can : goal.go_through-requires-clause-can
go_through-requires-clause-can g c =
    let members = c.args.members.now in
    let decl = c.args.machine.now.component in
    let matrix = c.args.machine.now.matrix in
    let was = c.loop-at.invariant in
    let v = was.visited in
    let m = c.loop-at.machine in
    let nodes = c.loop-at.nodes in
    let one = next_there members nodes v.0 v.1 c.loop-at.at c.in-Some.row (sym c.in-Some.is ∙ c.row.ensures) in
    let can = can_stand members decl matrix c.requires.runs.settles nodes.parts.dead v.3 v.0 c.loop-at.at v.2 m was.component was.matrix_is one.0 one.1 in
    let known : KnowsDead m.component nodes.parts.dead = subst (λ x. KnowsDead x nodes.parts.dead) (sym was.component) v.3 in
    let looked = c.in_ok-look_ahead.ensures.more v.0 v.1 known in
    subst (λ x. CanStandAtRow m.component m.matrix x c.in-Some.row) (sym looked.parts) (one.0, one.2, can)

-- the same arrays are guarded
pub look_ahead-requires-clause-guards : goal.look_ahead-requires-clause-guards
look_ahead-requires-clause-guards g c = subst (λ (d : Component). TellsGuarded d c.args.guards.now) (sym c.loop-at.invariant.component) c.requires.guards

pub go_through-requires-clause-guards : goal.go_through-requires-clause-guards
go_through-requires-clause-guards g c = subst (λ (d : Component). TellsGuarded d c.args.guards.now) (sym c.loop-at.invariant.component) c.requires.guards

pub loop-at-preserved : goal.loop-at-preserved
loop-at-preserved g c =
    let members = c.args.members.now in
    let decl = c.args.machine.now.component in
    let matrix = c.args.machine.now.matrix in
    let was = c.loop-at.invariant in
    let v = was.visited in
    let m = c.loop-at.machine in
    let nodes = c.loop-at.nodes in
    let number = c.loop-at.at in
    let one = next_there members nodes v.0 v.1 number c.in-Some.row (sym c.in-Some.is ∙ c.row.ensures) in
    let kept = one.0 in
    let known : KnowsDead m.component nodes.parts.dead = subst (λ x. KnowsDead x nodes.parts.dead) (sym was.component) v.3 in
    let looked = c.in_ok-look_ahead.ensures.more v.0 v.1 known in
    let then = c.look_ahead.new.nodes in
    let dead : KnowsDead decl then.parts.dead = subst (λ (x : Parts). KnowsDead decl x.dead) (sym looked.parts) v.3 in
    let visited = visited_then members decl matrix c.requires.runs.settles nodes.parts.dead v.3 v.0 number v.2 m was.component was.matrix_is _ looked.now looked.grows
    (let within = slice_get_within v.0 number kept one.1 in omega (arith, within)) in
    let here = there_then v.0 looked.grows.0 looked.now looked.grows.1 number kept one.1 in
    let its = subst (λ x. IsRowOf x kept c.in-Some.row) (sym looked.parts) one.2 in
    let known_now : KnowsDead m.component then.parts.dead = subst (λ x. KnowsDead x then.parts.dead) (sym was.component) dead in
    let through = c.in_ok-go_through.ensures.done looked.now kept looked.hold here its known_now in
    let more = through.more in
    let home = c.in_ok-go_through.ensures.home in
    record {
      component = home.component ∙ was.component;
      matrix_is = home.matrix_is ∙ was.matrix_is;
      base = search rules;
      running = search rules;
      visited = (
        more.list,
        more.hold,
        visited_next members decl matrix c.requires.runs.settles then.parts.dead dead looked.now number visited
            m was.component was.matrix_is kept here
            (state_of m.component m.matrix kept) kept.alive refl refl more.list more.grown,
        subst (KnowsDead decl) (sym more.parts.dead) dead,
      );
      ahead = found_same m.component decl m.matrix matrix members c.go_through.new.nodes c.go_through.new.ahead was.component was.matrix_is (c.in_ok-go_through.ensures.left looked.now looked.hold known_now);
    }

pub returns-clause-few : goal.returns-clause-few
returns-clause-few g c = λ s is.
    (let v = c.loop-at.invariant.visited in
    many_or_few c.args.members.now c.args.machine.now.component c.args.machine.now.matrix c.requires.runs.settles c.loop-at.nodes.parts.dead c.loop-at.invariant.visited.3 v.0 c.loop-at.at v.2 c.args.most
    (all_differ c.args.members.now c.loop-at.nodes v.0 v.1 c.len-2.ensures.unique) c.len-2.result (c.len-2.ensures.len ∙ v.1.many) (omega arith) s is)

-- what is ahead was found in the same runs
pub look_ahead-requires-clause-ahead : goal.look_ahead-requires-clause-ahead
look_ahead-requires-clause-ahead g c =
    let was = c.loop-at.invariant in
    let m = c.loop-at.machine in
    found_same c.args.machine.now.component m.component c.args.machine.now.matrix m.matrix c.args.members.now c.loop-at.nodes c.loop-at.ahead (sym was.component) (sym was.matrix_is) was.ahead

pub go_through-requires-clause-ahead : goal.go_through-requires-clause-ahead
go_through-requires-clause-ahead g c =
    let was = c.loop-at.invariant in
    let v = was.visited in
    c.in_ok-look_ahead.ensures.left v.0 v.1 (subst (λ x. KnowsDead x c.loop-at.nodes.parts.dead) (sym was.component) v.3)

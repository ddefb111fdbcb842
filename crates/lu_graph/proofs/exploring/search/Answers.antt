use Rattle.std.proofs.Common.{arith, rules, ◌≡◌, ℕ, ◌+◌, ◌≤◌, Bool, true, false, List, Some, length, slice_get, refl, sym, ◌∙◌, ap, subst}
use Rattle.std.proofs.lemmas.Option.{slice_get_within}
use Rattle.lu_component.specs.Component.{Component}
use Rattle.lu_machine.proofs.Starting.{settled_start}
use Rattle.lu_horizon.specs.Dead.{DeadTable}
use Rattle.lu_graph.specs.declared.row.Parts.{Parts}
use Rattle.lu_graph.specs.declared.row.Row.{Row}
use Rattle.lu_graph.specs.Growing.{state_of}
use Rattle.lu_graph.specs.Kept.{Kept}
use Rattle.lu_graph.specs.Guards.{TellsGuarded}
use Rattle.lu_graph.specs.Judging.{IsOneOf}
use Rattle.lu_graph.specs.Nodes.{HasFewNodes}
use Rattle.lu_graph.specs.Rows.{CanStandAtRow, IsRowOf, KnowsDead}
use Rattle.lu_graph.specs.Visiting.{AreVisited}
use Rattle.lu_graph.proofs.Ahead.{grows_within, there_then}
use Rattle.lu_graph.proofs.Expanded.{found_nothing, found_same}
use Rattle.lu_graph.proofs.Same.{AreDifferent}
use Rattle.lu_graph.proofs.Visiting.{badly, can_stand, ends_well_there, from_same, one_there, searched_at, searched_first, searched_next, searched_then, too_many, visited_first, visited_next, visited_then}
use Rattle.lu_graph.proofs.Waiting.{all_differ, next_there, none_waits}
use Rattle.lu_graph.proofs.exploring.search.Goals.{else-is_far-via-then-is_far+in_ok-are_few+else-not-branch, else-is_far-via-else-is_far}
use Rattle.lu_graph.proofs.exploring.search.Goals as goal

-- what is known of dead registers is known of the same component and the same table
known_there : (c : Component) (dead : DeadTable) → KnowsDead c dead → (d : Component) (table : DeadTable) → d ≡ c → table ≡ dead → KnowsDead d table
known_there c dead known d table one two = subst (λ x. KnowsDead x table) (sym one) (subst (KnowsDead c) (sym two) known)

before_end : (list : List Kept) (number : ℕ) (kept : Kept) → slice_get list number ≡ Some kept → number ≤ length list
before_end list number kept at = let within = slice_get_within list number kept at in omega (arith, within)

-- where the parts are the same, the same is known of dead registers, and a row is that of the same
known_parts : (c : Component) (old new : Parts) → new ≡ old → KnowsDead c old.dead → KnowsDead c new.dead
known_parts c old new same known = subst (λ (x : Parts). KnowsDead c x.dead) (sym same) known

row_then : (kept : Kept) (row : Row) (old new : Parts) → new ≡ old → IsRowOf old kept row → IsRowOf new kept row
row_then kept row old new same is = subst (λ x. IsRowOf x kept row) (sym same) is

pub loop-at-init : goal.loop-at-init
loop-at-init g c =
    let members = c.args.members.now in
    let decl = c.args.machine.now.component in
    let matrix = c.args.machine.now.matrix in
    let settles = settled_start decl matrix c.args.machine.now c.requires.starts in
    let dead = c.args.nodes.now.parts.dead in
    let dead_known : KnowsDead decl dead = c.requires.first.3 in
    let list = c.requires.first.0 in
    let hold = c.requires.first.1 in
    let start = c.requires.first.2 in
    let many = c.len.ensures.len ∙ hold.many in
    record {
      component = refl;
      matrix_is = refl;
      base = refl;
      running = c.requires.running;
      dead = refl;
      known = (
        list,
        hold,
        visited_first members decl matrix settles dead dead_known c.args.machine.now c.requires.starts list start,
        searched_first members decl matrix settles dead dead_known c.args.machine.now c.requires.starts list start c.len.result many,
      );
      ahead = found_nothing decl matrix members c.args.nodes.now c.new-ahead.result c.new-ahead.ensures.nodes;
      moves = one_there members decl matrix settles dead dead_known c.args.machine.now c.requires.starts list start c.len.result many;
    }

pub returns-then-known-most-clause-ends : goal.returns-then-known-most-clause-ends
returns-then-known-most-clause-ends g c =
    let members = c.args.members.now in
    let decl = c.args.machine.now.component in
    let matrix = c.args.machine.now.matrix in
    let settles = settled_start decl matrix c.args.machine.now c.requires.starts in
    let dead = c.args.nodes.now.parts.dead in
    let dead_known : KnowsDead decl dead = c.requires.first.3 in
    let list = c.loop-at.invariant.known.0 in
    let hold = c.loop-at.invariant.known.1 in
    let visited = c.loop-at.invariant.known.2 in
    let searched = c.loop-at.invariant.known.3 in
    let number = c.loop-at.at in
    let many = hold.many in
    too_many members decl matrix settles dead dead_known list number visited c.args.most (subst (λ d. AreDifferent d list) c.loop-at.invariant.dead (all_differ members c.loop-at.nodes list hold c.len-known.ensures.unique)) (omega (arith, many, c.len-known.ensures.len))

differ : (b : Bool) → b ≡ false → b ≡ true → ⊥
differ b p q = cc

pub returns-in-None-clause-ends : goal.returns-in-None-clause-ends
returns-in-None-clause-ends g c =
    let members = c.args.members.now in
    let decl = c.args.machine.now.component in
    let matrix = c.args.machine.now.matrix in
    let settles = settled_start decl matrix c.args.machine.now c.requires.starts in
    let dead = c.args.nodes.now.parts.dead in
    let dead_known : KnowsDead decl dead = c.requires.first.3 in
    let list = c.loop-at.invariant.known.0 in
    let hold = c.loop-at.invariant.known.1 in
    let visited = c.loop-at.invariant.known.2 in
    let searched = c.loop-at.invariant.known.3 in
    let number = c.loop-at.at in
    let many = hold.many in
    let past : length list ≤ number = none_waits members c.loop-at.nodes list hold number (sym c.in-None.is ∙ c.row.ensures) in
    ends_well_there members decl matrix settles dead dead_known list number visited c.args.most past (omega (arith, many, c.len-known.ensures.len)) c.args.guards.now c.requires.guards c.loop-at.level.moves c.loop-at.level.end searched

pub look_ahead-requires-clause-visited : goal.look_ahead-requires-clause-visited
look_ahead-requires-clause-visited g c =
    let members = c.args.members.now in
    let decl = c.args.machine.now.component in
    let matrix = c.args.machine.now.matrix in
    let settles = settled_start decl matrix c.args.machine.now c.requires.starts in
    let dead = c.args.nodes.now.parts.dead in
    let dead_known : KnowsDead decl dead = c.requires.first.3 in
    let list = c.loop-at.invariant.known.0 in
    let hold = c.loop-at.invariant.known.1 in
    let visited = c.loop-at.invariant.known.2 in
    let searched = c.loop-at.invariant.known.3 in
    let number = c.loop-at.at in
    let m = c.loop-at.machine in
    let was = c.loop-at.invariant in (
      list,
      hold,
      from_same m.component decl m.matrix matrix was.component was.matrix_is (λ s. AreVisited members s list number) visited,
      known_there decl dead dead_known m.component c.loop-at.nodes.parts.dead was.component was.dead,
    )

-- the same arrays are guarded
pub look_ahead-requires-clause-guards : goal.look_ahead-requires-clause-guards
look_ahead-requires-clause-guards g c = subst (λ (d : Component). TellsGuarded d c.args.guards.now) (sym c.loop-at.invariant.component) c.requires.guards

pub go_through-requires-clause-guards : goal.go_through-requires-clause-guards
go_through-requires-clause-guards g c = subst (λ (d : Component). TellsGuarded d c.args.guards.now) (sym c.loop-at.invariant.component) c.requires.guards

pub go_through-requires-clause-can : goal.go_through-requires-clause-can
go_through-requires-clause-can g c =
    let members = c.args.members.now in
    let decl = c.args.machine.now.component in
    let matrix = c.args.machine.now.matrix in
    let settles = settled_start decl matrix c.args.machine.now c.requires.starts in
    let dead = c.args.nodes.now.parts.dead in
    let dead_known : KnowsDead decl dead = c.requires.first.3 in
    let list = c.loop-at.invariant.known.0 in
    let hold = c.loop-at.invariant.known.1 in
    let visited = c.loop-at.invariant.known.2 in
    let searched = c.loop-at.invariant.known.3 in
    let number = c.loop-at.at in
    let m = c.loop-at.machine in
    let was = c.loop-at.invariant in
    let one = next_there members c.loop-at.nodes list hold number c.in-Some.row (sym c.in-Some.is ∙ c.row.ensures) in
    let kept = one.0 in
    let here = one.1 in
    let known : KnowsDead m.component c.loop-at.nodes.parts.dead = known_there decl dead dead_known m.component c.loop-at.nodes.parts.dead was.component was.dead in
    let looked = c.in_ok-look_ahead.ensures.more list hold known in
    subst (λ x. CanStandAtRow m.component m.matrix x c.in-Some.row) (sym looked.parts)
    (kept, one.2, can_stand members decl matrix settles dead dead_known list number visited m was.component was.matrix_is kept here)

pub are_few-requires-clause-guards : goal.are_few-requires-clause-guards
are_few-requires-clause-guards g c =
    subst (λ (d : Component). TellsGuarded d c.args.guards.now) (sym (c.in_ok-is_good.ensures.home.component ∙ c.loop-at.invariant.component)) c.requires.guards

pub are_few-requires-clause-ahead : goal.are_few-requires-clause-ahead
are_few-requires-clause-ahead g c =
    let members = c.args.members.now in
    let decl = c.args.machine.now.component in
    let matrix = c.args.machine.now.matrix in
    let settles = settled_start decl matrix c.args.machine.now c.requires.starts in
    let dead = c.args.nodes.now.parts.dead in
    let dead_known : KnowsDead decl dead = c.requires.first.3 in
    let list = c.loop-at.invariant.known.0 in
    let hold = c.loop-at.invariant.known.1 in
    let visited = c.loop-at.invariant.known.2 in
    let searched = c.loop-at.invariant.known.3 in
    let number = c.loop-at.at in
    let m = c.loop-at.machine in
    let was = c.loop-at.invariant in
    let one = next_there members c.loop-at.nodes list hold number c.in-Some.row (sym c.in-Some.is ∙ c.row.ensures) in
    let kept = one.0 in
    let here = one.1 in
    let known : KnowsDead m.component c.loop-at.nodes.parts.dead = known_there decl dead dead_known m.component c.loop-at.nodes.parts.dead was.component was.dead in
    let looked = c.in_ok-look_ahead.ensures.more list hold known in
    let then = c.look_ahead.new.nodes in
    let now_there = there_then list looked.grows.0 looked.now looked.grows.1 number kept here in
    let within : number ≤ length list = before_end list number kept here in
    let end = c.batch_end-end.result in
    let visited_now = visited_then members decl matrix settles dead dead_known list number visited m was.component was.matrix_is end looked.now looked.grows within in
    let known_now : KnowsDead m.component then.parts.dead = known_parts m.component c.loop-at.nodes.parts then.parts looked.parts known in
    let through = c.in_ok-is_good.ensures.done looked.now kept looked.hold now_there (row_then kept c.in-Some.row c.loop-at.nodes.parts then.parts looked.parts one.2) known_now in
    let more = through.more in
    let home = c.in_ok-is_good.ensures.home in
    let component_is = home.component ∙ was.component in
    let matrix_is = home.matrix_is ∙ was.matrix_is in
    let last = c.go_through.new.machine in
    let now = state_of m.component m.matrix kept in
    found_same m.component last.component m.matrix last.matrix members c.go_through.new.nodes c.go_through.new.ahead (sym home.component) (sym home.matrix_is) (c.in_ok-is_good.ensures.left looked.now looked.hold known_now)

pub are_few-requires-clause-visited : goal.are_few-requires-clause-visited
are_few-requires-clause-visited g c =
    let members = c.args.members.now in
    let decl = c.args.machine.now.component in
    let matrix = c.args.machine.now.matrix in
    let settles = settled_start decl matrix c.args.machine.now c.requires.starts in
    let dead = c.args.nodes.now.parts.dead in
    let dead_known : KnowsDead decl dead = c.requires.first.3 in
    let list = c.loop-at.invariant.known.0 in
    let hold = c.loop-at.invariant.known.1 in
    let visited = c.loop-at.invariant.known.2 in
    let searched = c.loop-at.invariant.known.3 in
    let number = c.loop-at.at in
    let m = c.loop-at.machine in
    let was = c.loop-at.invariant in
    let one = next_there members c.loop-at.nodes list hold number c.in-Some.row (sym c.in-Some.is ∙ c.row.ensures) in
    let kept = one.0 in
    let here = one.1 in
    let known : KnowsDead m.component c.loop-at.nodes.parts.dead = known_there decl dead dead_known m.component c.loop-at.nodes.parts.dead was.component was.dead in
    let looked = c.in_ok-look_ahead.ensures.more list hold known in
    let then = c.look_ahead.new.nodes in
    let now_there = there_then list looked.grows.0 looked.now looked.grows.1 number kept here in
    let within : number ≤ length list = before_end list number kept here in
    let end = c.batch_end-end.result in
    let visited_now = visited_then members decl matrix settles dead dead_known list number visited m was.component was.matrix_is end looked.now looked.grows within in
    let known_now : KnowsDead m.component then.parts.dead = known_parts m.component c.loop-at.nodes.parts then.parts looked.parts known in
    let through = c.in_ok-is_good.ensures.done looked.now kept looked.hold now_there (row_then kept c.in-Some.row c.loop-at.nodes.parts then.parts looked.parts one.2) known_now in
    let more = through.more in
    let home = c.in_ok-is_good.ensures.home in
    let component_is = home.component ∙ was.component in
    let matrix_is = home.matrix_is ∙ was.matrix_is in
    let last = c.go_through.new.machine in
    let now = state_of m.component m.matrix kept in (
      more.list,
      more.hold,
      from_same last.component decl last.matrix matrix component_is matrix_is (λ s. AreVisited members s more.list (number + 1))
          (visited_next members decl matrix settles dead dead_known looked.now number visited_now m was.component was.matrix_is kept now_there now kept.alive refl refl more.list more.grown),
      known_there decl dead dead_known last.component c.go_through.new.nodes.parts.dead component_is (more.parts.dead ∙ (ap (λ (x : Parts). x.dead) looked.parts ∙ was.dead)),
    )

pub returns-then-not-branch-clause-ends : goal.returns-then-not-branch-clause-ends
returns-then-not-branch-clause-ends g c =
    let members = c.args.members.now in
    let decl = c.args.machine.now.component in
    let matrix = c.args.machine.now.matrix in
    let settles = settled_start decl matrix c.args.machine.now c.requires.starts in
    let dead = c.args.nodes.now.parts.dead in
    let dead_known : KnowsDead decl dead = c.requires.first.3 in
    let list = c.loop-at.invariant.known.0 in
    let hold = c.loop-at.invariant.known.1 in
    let visited = c.loop-at.invariant.known.2 in
    let searched = c.loop-at.invariant.known.3 in
    let number = c.loop-at.at in
    let m = c.loop-at.machine in
    let was = c.loop-at.invariant in
    let one = next_there members c.loop-at.nodes list hold number c.in-Some.row (sym c.in-Some.is ∙ c.row.ensures) in
    let kept = one.0 in
    let here = one.1 in
    let known : KnowsDead m.component c.loop-at.nodes.parts.dead = known_there decl dead dead_known m.component c.loop-at.nodes.parts.dead was.component was.dead in
    let looked = c.in_ok-look_ahead.ensures.more list hold known in
    let then = c.look_ahead.new.nodes in
    let now_there = there_then list looked.grows.0 looked.now looked.grows.1 number kept here in
    let within : number ≤ length list = before_end list number kept here in
    let end = c.batch_end-end.result in
    let visited_now = visited_then members decl matrix settles dead dead_known list number visited m was.component was.matrix_is end looked.now looked.grows within in
    let known_now : KnowsDead m.component then.parts.dead = known_parts m.component c.loop-at.nodes.parts then.parts looked.parts known in
    let through = c.in_ok-is_good.ensures.done looked.now kept looked.hold now_there (row_then kept c.in-Some.row c.loop-at.nodes.parts then.parts looked.parts one.2) known_now in
    let more = through.more in
    let home = c.in_ok-is_good.ensures.home in
    let component_is = home.component ∙ was.component in
    let matrix_is = home.matrix_is ∙ was.matrix_is in
    let last = c.go_through.new.machine in
    let now = state_of m.component m.matrix kept in
    let other : c.in_ok-are_few.field-0 ≡ false = search rules in
    let said = from_same decl last.component matrix last.matrix (sym component_is) (sym matrix_is)
    (λ s. HasFewNodes (IsOneOf members) s c.args.most → c.in_ok-are_few.field-0 ≡ true) (λ s is. (c.in_ok-are_few.ensures.few s is).1) in
    λ s is few. absurd (differ c.in_ok-are_few.field-0 other (said s is few))

pub returns-then-not-is_good-clause-ends : goal.returns-then-not-is_good-clause-ends
returns-then-not-is_good-clause-ends g c =
    let members = c.args.members.now in
    let decl = c.args.machine.now.component in
    let matrix = c.args.machine.now.matrix in
    let settles = settled_start decl matrix c.args.machine.now c.requires.starts in
    let dead = c.args.nodes.now.parts.dead in
    let dead_known : KnowsDead decl dead = c.requires.first.3 in
    let list = c.loop-at.invariant.known.0 in
    let hold = c.loop-at.invariant.known.1 in
    let visited = c.loop-at.invariant.known.2 in
    let searched = c.loop-at.invariant.known.3 in
    let number = c.loop-at.at in
    let m = c.loop-at.machine in
    let was = c.loop-at.invariant in
    let one = next_there members c.loop-at.nodes list hold number c.in-Some.row (sym c.in-Some.is ∙ c.row.ensures) in
    let kept = one.0 in
    let here = one.1 in
    let known : KnowsDead m.component c.loop-at.nodes.parts.dead = known_there decl dead dead_known m.component c.loop-at.nodes.parts.dead was.component was.dead in
    let looked = c.in_ok-look_ahead.ensures.more list hold known in
    let then = c.look_ahead.new.nodes in
    let now_there = there_then list looked.grows.0 looked.now looked.grows.1 number kept here in
    let within : number ≤ length list = before_end list number kept here in
    let end = c.batch_end-end.result in
    let visited_now = visited_then members decl matrix settles dead dead_known list number visited m was.component was.matrix_is end looked.now looked.grows within in
    let known_now : KnowsDead m.component then.parts.dead = known_parts m.component c.loop-at.nodes.parts then.parts looked.parts known in
    let through = c.in_ok-is_good.ensures.done looked.now kept looked.hold now_there (row_then kept c.in-Some.row c.loop-at.nodes.parts then.parts looked.parts one.2) known_now in
    let more = through.more in
    let home = c.in_ok-is_good.ensures.home in
    let component_is = home.component ∙ was.component in
    let matrix_is = home.matrix_is ∙ was.matrix_is in
    let last = c.go_through.new.machine in
    let now = state_of m.component m.matrix kept in
    let level = searched_at members decl matrix settles dead dead_known list number visited c.loop-at.level c.at-level.result c.len-known.result (c.len-known.ensures.len ∙ hold.many) searched was.moves kept (sym here) c.at-level.ensures in
    let other : c.in_ok-is_good.is_good ≡ false = search rules in
    λ s is. (
      badly members decl matrix settles dead dead_known list number visited m was.component was.matrix_is kept here now kept.alive refl refl
          c.args.guards.now c.requires.guards c.at-level.result.moves c.at-level.result.end level.2 level.0 c.in_ok-is_good.is_good other through.good_is s is,
      (λ far. elim c.else-is_far.branch as (λ _. HasFewNodes (IsOneOf members) s c.args.most) [
        | else-is_far-via-then-is_far+in_ok-are_few+else-not-branch w ↦
            (let few : w.in_ok-are_few.field-0 ≡ true = search rules in
            from_same decl last.component matrix last.matrix (sym component_is) (sym matrix_is)
            (λ s. w.in_ok-are_few.field-0 ≡ true → HasFewNodes (IsOneOf members) s c.args.most) (λ s is. (w.in_ok-are_few.ensures.few s is).0) s is few)
        | else-is_far-via-else-is_far w ↦ absurd (let near = w.if-is_far.false in omega (arith, near, far, c.from.ensures))
      ]),
    )

pub loop-at-preserved : goal.loop-at-preserved
loop-at-preserved g c =
    let members = c.args.members.now in
    let decl = c.args.machine.now.component in
    let matrix = c.args.machine.now.matrix in
    let settles = settled_start decl matrix c.args.machine.now c.requires.starts in
    let dead = c.args.nodes.now.parts.dead in
    let dead_known : KnowsDead decl dead = c.requires.first.3 in
    let list = c.loop-at.invariant.known.0 in
    let hold = c.loop-at.invariant.known.1 in
    let visited = c.loop-at.invariant.known.2 in
    let searched = c.loop-at.invariant.known.3 in
    let number = c.loop-at.at in
    let m = c.loop-at.machine in
    let was = c.loop-at.invariant in
    let one = next_there members c.loop-at.nodes list hold number c.in-Some.row (sym c.in-Some.is ∙ c.row.ensures) in
    let kept = one.0 in
    let here = one.1 in
    let known : KnowsDead m.component c.loop-at.nodes.parts.dead = known_there decl dead dead_known m.component c.loop-at.nodes.parts.dead was.component was.dead in
    let looked = c.in_ok-look_ahead.ensures.more list hold known in
    let then = c.look_ahead.new.nodes in
    let now_there = there_then list looked.grows.0 looked.now looked.grows.1 number kept here in
    let within : number ≤ length list = before_end list number kept here in
    let end = c.batch_end-end.result in
    let visited_now = visited_then members decl matrix settles dead dead_known list number visited m was.component was.matrix_is end looked.now looked.grows within in
    let known_now : KnowsDead m.component then.parts.dead = known_parts m.component c.loop-at.nodes.parts then.parts looked.parts known in
    let through = c.in_ok-is_good.ensures.done looked.now kept looked.hold now_there (row_then kept c.in-Some.row c.loop-at.nodes.parts then.parts looked.parts one.2) known_now in
    let more = through.more in
    let home = c.in_ok-is_good.ensures.home in
    let component_is = home.component ∙ was.component in
    let matrix_is = home.matrix_is ∙ was.matrix_is in
    let last = c.go_through.new.machine in
    let now = state_of m.component m.matrix kept in
    let level = searched_at members decl matrix settles dead dead_known list number visited c.loop-at.level c.at-level.result c.len-known.result (c.len-known.ensures.len ∙ hold.many) searched was.moves kept (sym here) c.at-level.ensures in
    record {
      component = component_is;
      matrix_is = matrix_is;
      base = search rules;
      running = search rules;
      dead = more.parts.dead ∙ (ap (λ (x : Parts). x.dead) looked.parts ∙ was.dead);
      known = (
        more.list,
        more.hold,
        visited_next members decl matrix settles dead dead_known looked.now number visited_now m was.component was.matrix_is kept now_there now kept.alive refl refl more.list more.grown,
        searched_next members decl matrix settles dead dead_known looked.now number visited_now m was.component was.matrix_is kept now_there now kept.alive refl refl more.list more.grown
            c.at-level.result.moves c.at-level.result.end
            (searched_then members decl matrix settles dead dead_known list number visited m was.component was.matrix_is c.at-level.result.end looked.now (grows_within members m.component m.matrix list number end c.at-level.result.end c.batch_end-end.ensures looked.now looked.grows) c.at-level.result.moves level.0 level.2) level.0 c.in_ok-is_good.is_good (search rules) through.good_is,
      );
      ahead = found_same m.component decl m.matrix matrix members c.go_through.new.nodes c.go_through.new.ahead was.component was.matrix_is (c.in_ok-is_good.ensures.left looked.now looked.hold known_now);
      moves = level.1;
    }

pub returns-then-len-most-clause-ends : goal.returns-then-len-most-clause-ends
returns-then-len-most-clause-ends g c =
    let members = c.args.members.now in
    let decl = c.args.machine.now.component in
    let matrix = c.args.machine.now.matrix in
    let settles = settled_start decl matrix c.args.machine.now c.requires.starts in
    let dead = c.args.nodes.now.parts.dead in
    let dead_known : KnowsDead decl dead = c.requires.first.3 in
    let list = c.loop-at.invariant.known.0 in
    let hold = c.loop-at.invariant.known.1 in
    let visited = c.loop-at.invariant.known.2 in
    let searched = c.loop-at.invariant.known.3 in
    let number = c.loop-at.at in
    let many = hold.many in
    too_many members decl matrix settles dead dead_known list number visited c.args.most (subst (λ d. AreDifferent d list) c.loop-at.invariant.dead (all_differ members c.loop-at.nodes list hold c.len-2.ensures.unique)) (omega (arith, many, c.len-2.ensures.len))

pub returns-clause-ends : goal.returns-clause-ends
returns-clause-ends g c =
    let members = c.args.members.now in
    let decl = c.args.machine.now.component in
    let matrix = c.args.machine.now.matrix in
    let settles = settled_start decl matrix c.args.machine.now c.requires.starts in
    let dead = c.args.nodes.now.parts.dead in
    let dead_known : KnowsDead decl dead = c.requires.first.3 in
    let list = c.loop-at.invariant.known.0 in
    let hold = c.loop-at.invariant.known.1 in
    let visited = c.loop-at.invariant.known.2 in
    let searched = c.loop-at.invariant.known.3 in
    let number = c.loop-at.at in
    let many = hold.many in
    ends_well_there members decl matrix settles dead dead_known list number visited c.args.most (omega (arith, many, c.len-2.ensures.len)) (omega (arith, many, c.len-2.ensures.len)) c.args.guards.now c.requires.guards c.loop-at.level.moves c.loop-at.level.end searched

-- what is ahead was found in the same runs
pub look_ahead-requires-clause-ahead : goal.look_ahead-requires-clause-ahead
look_ahead-requires-clause-ahead g c =
    let was = c.loop-at.invariant in
    let m = c.loop-at.machine in
    found_same c.args.machine.now.component m.component c.args.machine.now.matrix m.matrix c.args.members.now c.loop-at.nodes c.loop-at.ahead (sym was.component) (sym was.matrix_is) was.ahead

pub go_through-requires-clause-ahead : goal.go_through-requires-clause-ahead
go_through-requires-clause-ahead g c =
    let was = c.loop-at.invariant in
    let known = was.known in
    c.in_ok-look_ahead.ensures.left known.0 known.1
    (known_there c.args.machine.now.component c.args.nodes.now.parts.dead c.requires.first.3 c.loop-at.machine.component c.loop-at.nodes.parts.dead was.component was.dead)

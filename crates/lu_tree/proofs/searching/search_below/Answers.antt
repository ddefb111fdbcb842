use Rattle.std.proofs.Common.{arith, Err, ◌≡◌, ◌+◌, ◌-◌, List, ◌++◌, length, reverse, refl, sym, ◌∙◌, ap, subst}
use Rattle.lu_machine.specs.States.{State}
use Rattle.lu_test.specs.declared.schedule.Move.{Move}
use Rattle.lu_test.specs.Schedule.{AreMoves}
use Rattle.lu_witness.specs.Witnesses.{IsMember}
use Rattle.lu_tree.specs.Known.{counts_of}
use Rattle.lu_tree.specs.Trees.{Below}
use Rattle.lu_tree.specs.Walks.{IsFirstAt}
use Rattle.lu_tree.specs.Walked.{was_stopped}
use Rattle.lu_horizon.specs.Dead.{IsDeadTable}
use Rattle.lu_horizon.proofs.OwnLaws.{leads_component, serves_end}
use Rattle.lu_tree.proofs.Added.{walk_passed, walk_halted}
use Rattle.lu_tree.proofs.Leaving.{bad_found, bad_not_abandoned, halts_at}
use Rattle.lu_tree.proofs.KnownLaws.{known_below}
use Rattle.lu_tree.proofs.Limits.{schedule_moves}
use Rattle.lu_machine.proofs.Starting.{start_there}
use Rattle.lu_tree.proofs.searching.search_below.Goals as goal

pub returns-in-Ok-clause-found : goal.returns-in-Ok-clause-found
returns-in-Ok-clause-found g c = λ s is.
    (let from = c.args.from.now in
    let node = c.args.node.now in
    let left = c.args.space.now.bound - length from in
    let all : length from + left ≡ c.args.space.now.bound = omega (arith, c.requires.of.short) in
    let Set = IsMember (g.T.SerialTree.members node.trail.tree) in
    let known = c.in-Ok.known in
    let below = known_below Set node.machine node.trail.history left known c.in-Ok.ensures.walked.known in
    walk_passed Set s c.args.space.now.bound left from from node.machine node.trail.history refl all (c.requires.leads s is) (counts_of known) below)

pub walk-requires-clause-serves : goal.walk-requires-clause-serves
walk-requires-clause-serves g c =
    let there = start_there c.args.space.now.test.component.now c.args.space.now.test.matrix.now c.args.space.now.test.can_run.settles in
    let start : State = there.0 in
    let node = c.args.node.now in
    serves_end c.args.tables.now.horizon start c.args.from.now node.machine node.trail.history (c.requires.leads start there.1) (c.requires.tables.0 start there.1)

pub walk-requires-clause-dead : goal.walk-requires-clause-dead
walk-requires-clause-dead g c =
    let there = start_there c.args.space.now.test.component.now c.args.space.now.test.matrix.now c.args.space.now.test.can_run.settles in
    let start : State = there.0 in
    let node = c.args.node.now in
    let begins : start.component ≡ c.args.space.now.test.component.now = ap (λ (x : State). x.component) there.1.is in
    let component : node.machine.component ≡ c.args.space.now.test.component.now = leads_component start c.args.from.now node.machine node.trail.history (c.requires.leads start there.1) ∙ begins in
    subst (λ x. IsDeadTable x c.args.tables.now.dead) (sym component) c.requires.tables.1

pub found_bad-requires-clause-ended : goal.found_bad-requires-clause-ended
found_bad-requires-clause-ended g c =
    let there = start_there c.args.space.now.test.component.now c.args.space.now.test.matrix.now c.args.space.now.test.can_run.settles in
    let start : State = there.0 in
    let from = c.args.from.now in
    let node = c.args.node.now in
    let left = c.args.space.now.bound - length from in
    let all : length from + left ≡ c.args.space.now.bound = omega (arith, c.requires.of.short) in
    let Set = IsMember (g.T.SerialTree.members node.trail.tree) in
    let halts = halts_at g.T.SerialTree.members node left c.walk.new.tally c.walk.new.node c.in-Err-NotGood.field-0 c.in-Err-NotGood.field-0-is c.in-Err-NotGood.ensures.walked in
    let first : IsFirstAt Set start c.args.space.now.bound (Below from) (from ++ reverse c.walk.new.tally.path.items) c.walk.new.node.machine c.walk.new.node.trail.history = walk_halted Set start c.args.space.now.bound left from from node.machine node.trail.history refl all (c.requires.leads start there.1) c.walk.new.tally.path.items c.walk.new.node.machine c.walk.new.node.trail.history halts in
    first.ended

pub found_bad-requires-clause-moves : goal.found_bad-requires-clause-moves
found_bad-requires-clause-moves g c =
    let there = start_there c.args.space.now.test.component.now c.args.space.now.test.matrix.now c.args.space.now.test.can_run.settles in
    let start : State = there.0 in
    let from = c.args.from.now in
    let node = c.args.node.now in
    let left = c.args.space.now.bound - length from in
    let all : length from + left ≡ c.args.space.now.bound = omega (arith, c.requires.of.short) in
    let Set = IsMember (g.T.SerialTree.members node.trail.tree) in
    let path = c.walk.new.tally.path.items in
    let end = c.walk.new.node.machine in
    let last = c.walk.new.node.trail.history in
    let halts = halts_at g.T.SerialTree.members node left c.walk.new.tally c.walk.new.node c.in-Err-NotGood.field-0 c.in-Err-NotGood.field-0-is c.in-Err-NotGood.ensures.walked in
    let first : IsFirstAt Set start c.args.space.now.bound (Below from) (from ++ reverse path) end last = walk_halted Set start c.args.space.now.bound left from from node.machine node.trail.history refl all (c.requires.leads start there.1) path end last halts in
    let few = c.requires.of.few in
    let short = first.short in
    subst (λ x. AreMoves (from ++ reverse x)) (sym c.deref.ensures.value)
    (schedule_moves c.args.space.now.test.component.now c.args.space.now.test.matrix.now start c.requires.limits.0 c.requires.limits.1 there.1 (from ++ reverse path) end last first.leads (omega arith))

pub returns-in-Err-NotGood-clause-found : goal.returns-in-Err-NotGood-clause-found
returns-in-Err-NotGood-clause-found g c = λ s is.
    (let from = c.args.from.now in
    let node = c.args.node.now in
    let left = c.args.space.now.bound - length from in
    let all : length from + left ≡ c.args.space.now.bound = omega (arith, c.requires.of.short) in
    let Set = IsMember (g.T.SerialTree.members node.trail.tree) in
    let path = c.walk.new.tally.path.items in
    let end = c.walk.new.node in
    let halts = halts_at g.T.SerialTree.members node left c.walk.new.tally end c.in-Err-NotGood.field-0 c.in-Err-NotGood.field-0-is c.in-Err-NotGood.ensures.walked in
    let first : IsFirstAt Set s c.args.space.now.bound (Below from) (from ++ reverse path) end.machine end.trail.history = walk_halted Set s c.args.space.now.bound left from from node.machine node.trail.history refl all (c.requires.leads s is) path end.machine end.trail.history halts in
    bad_found g.T.SerialTree.members node.trail.tree end s c.args.space.now.bound from (from ++ reverse path) (from ++ reverse c.deref.result.now) (ap (λ (x : List Move). from ++ reverse x) c.deref.ensures.value) (ap (λ x. g.T.SerialTree.members x) c.walk.ensures.stays.run.tree) first c.found_bad.result c.found_bad.ensures.bad)

pub returns-in-Err-NotGood-clause-stopped : goal.returns-in-Err-NotGood-clause-stopped
returns-in-Err-NotGood-clause-stopped g c =
    let running = c.in-Err-NotGood.ensures.stopped ∙ ap (λ x. was_stopped (Err x)) c.in-Err-NotGood.field-0-is in
    running ∙ sym (bad_not_abandoned g.T.SerialTree.members c.walk.new.node _ c.found_bad.result c.found_bad.ensures.bad)

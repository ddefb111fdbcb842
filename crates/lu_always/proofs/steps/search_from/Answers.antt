use Rattle.std.proofs.Common.{arith, ◌≡◌, ◌<◌, ◌≤◌, ◌+◌, ◌∷◌, ◌++◌, [], length, None, Some, refl, sym, ◌∙◌, ap, subst, length-append}
use Rattle.lu_component.specs.Component.{Component}
use Rattle.lu_machine.proofs.Starting.{start_component}
use Rattle.lu_graph.specs.Guards.{TellsGuarded}
use Rattle.lu_always.specs.declared.judging.Judged.TheVariants.{Good}
use Rattle.lu_always.specs.declared.steps.Visited.TheVariants.{Exits, Fails}
use Rattle.lu_always.specs.Exits.{AreExits}
use Rattle.lu_always.specs.Nodes.{Node}
use Rattle.lu_always.specs.Searching.{HoldsOf, IsStoredFor, node_at}
use Rattle.lu_always.specs.Sinks.{Graph}
use Rattle.lu_always.specs.StepSearch.{HasSteps, IsJudged, IsStepVisit}
use Rattle.lu_always.specs.Ways.{IsWayToLivelock}
use Rattle.lu_always.proofs.Exiting.{exits_next, exits_none}
use Rattle.lu_always.proofs.Keeping.{base_adds, base_grows, base_node, can_none, longer, only_first, parents_before}
use Rattle.lu_always.proofs.StepExits.{shows_livelock, shows_never}
use Rattle.lu_always.proofs.StepsMade.{stepped_next, stepped_none}
use Rattle.lu_always.proofs.StepsTold.{fails, parents, steps_show_all}
use Rattle.lu_always.proofs.steps.search_from.Goals as goal

pub loop-index-init : goal.loop-index-init
loop-index-init g c =
    let s = c.args.machine.now in
    record {
      stepped = c.requires.begun;
      same = record { component = refl; matrix_is = refl };
      within = omega arith;
      many = ap (λ (x : Graph). length x) c.new-exits.ensures.items;
      exits = exits_none c.args.given.dead.now c.args.given.rounds s c.args.all.now c.new-exits.result.items c.new-exits.ensures.items;
    }

pub way_to_livelock-requires-clause-many : goal.way_to_livelock-requires-clause-many
way_to_livelock-requires-clause-many g c =
    rw c.as_slice.ensures.value (omega (arith, c.if-index-len.true, c.len.ensures, c.loop-index.invariant.within, c.loop-index.invariant.many))

pub way_to_livelock-requires-clause-parents : goal.way_to_livelock-requires-clause-parents
way_to_livelock-requires-clause-parents g c =
    let (first, initial, are) = c.loop-index.invariant.stepped in
    parents_before c.args.given.dead.now c.args.given.rounds c.args.given.table.now first c.args.machine.now c.loop-index.all are.arrivals

pub returns-in_default : goal.returns-in_default
returns-in_default g c =
    let s = c.args.machine.now in
    let all = c.loop-index.all in
    let past : length all ≤ c.loop-index.index = omega (arith, c.if-index-len.true, c.len.ensures) in
    let many : length c.loop-index.exits.items ≡ length all = omega (arith, past, c.loop-index.invariant.within, c.loop-index.invariant.many) in
    let none : IsWayToLivelock all c.loop-index.exits.items None = subst (IsWayToLivelock all c.loop-index.exits.items) c.in_default.is (subst (λ x. IsWayToLivelock all x c.in_ok-moves.field-0) c.as_slice.ensures.value c.in_ok-moves.ensures) in
    let (first, initial, are) = c.loop-index.invariant.stepped in (
      steps_show_all c.args.machine.now.component c.args.given.dead.now c.requires.dead c.args.given.rounds c.args.machine.now.matrix c.args.given.table.now first s c.requires.starts initial c.args.guards.now c.requires.guards c.loop-index.index all past are,
      shows_never c.args.machine.now.component c.args.given.dead.now c.requires.dead c.args.given.rounds c.args.machine.now.matrix c.args.given.table.now first s c.requires.starts initial c.args.guards.now c.requires.guards c.loop-index.index all past are c.loop-index.exits.items many c.loop-index.invariant.exits none,
    )

pub returns-then-index-len : goal.returns-then-index-len
returns-then-index-len g c =
    let s = c.args.machine.now in
    let all = c.loop-index.all in
    let past : length all ≤ c.loop-index.index = omega (arith, c.if-index-len.true, c.len.ensures) in
    let many : length c.loop-index.exits.items ≡ length all = omega (arith, past, c.loop-index.invariant.within, c.loop-index.invariant.many) in
    let some : IsWayToLivelock all c.loop-index.exits.items (Some c.in-Some.moves) = subst (IsWayToLivelock all c.loop-index.exits.items) c.in-Some.is (subst (λ x. IsWayToLivelock all x c.in_ok-moves.field-0) c.as_slice.ensures.value c.in_ok-moves.ensures) in
    let (first, initial, are) = c.loop-index.invariant.stepped in (
      steps_show_all c.args.machine.now.component c.args.given.dead.now c.requires.dead c.args.given.rounds c.args.machine.now.matrix c.args.given.table.now first s c.requires.starts initial c.args.guards.now c.requires.guards c.loop-index.index all past are,
      shows_livelock c.args.machine.now.component c.args.given.dead.now c.requires.dead c.args.given.rounds c.args.machine.now.matrix c.args.given.table.now first s c.requires.starts initial c.args.guards.now c.requires.guards c.loop-index.index all past are c.loop-index.exits.items many c.loop-index.invariant.exits c.in-Some.moves some,
    )

pub visit-requires-clause-guards : goal.visit-requires-clause-guards
visit-requires-clause-guards g c =
    subst (λ (x : Component). TellsGuarded x c.args.guards.now) (sym c.loop-index.invariant.same.component) c.requires.guards

pub way_with-requires-clause-parents : goal.way_with-requires-clause-parents
way_with-requires-clause-parents g c =
    let s = c.args.machine.now in
    let (first, initial, are) = c.loop-index.invariant.stepped in
    let same = c.loop-index.invariant.same in
    let within : c.loop-index.index < length c.loop-index.all = omega (arith, c.if-index-len.false, c.len.ensures) in
    parents c.args.machine.now.component c.args.given.dead.now c.requires.dead c.args.given.rounds c.args.machine.now.matrix c.args.given.table.now first s c.loop-index.machine c.requires.starts initial same c.loop-index.index c.loop-index.all c.visit.new.all within are
    (base_grows s c.loop-index.machine c.loop-index.all c.visit.new.all same c.in_ok-found.ensures.grows) c.in_ok-found.ensures.new

pub returns-in-Fails : goal.returns-in-Fails
returns-in-Fails g c =
    let s = c.args.machine.now in
    let call = c.in-Fails.call in
    let (first, initial, are) = c.loop-index.invariant.stepped in
    let same = c.loop-index.invariant.same in
    let within : c.loop-index.index < length c.loop-index.all = omega (arith, c.if-index-len.false, c.len.ensures) in
    let bad : IsStepVisit c.args.given.dead.now c.args.given.rounds c.args.given.table.now c.loop-index.machine c.loop-index.all c.loop-index.index c.visit.new.all (Fails call) =
    subst (IsStepVisit c.args.given.dead.now c.args.given.rounds c.args.given.table.now c.loop-index.machine c.loop-index.all c.loop-index.index c.visit.new.all) c.in-Fails.is c.in_ok-found.ensures.visit in
    fails c.args.machine.now.component c.args.given.dead.now c.requires.dead c.args.given.rounds c.args.machine.now.matrix c.args.given.table.now first s c.loop-index.machine c.requires.starts initial same c.loop-index.index c.loop-index.all c.visit.new.all within are
    (base_grows s c.loop-index.machine c.loop-index.all c.visit.new.all same c.in_ok-found.ensures.grows) c.in_ok-found.ensures.new call bad c.in_ok-moves-in-Fails.moves c.in_ok-moves-in-Fails.ensures

pub loop-index-preserved : goal.loop-index-preserved
loop-index-preserved g c =
    let dead = c.args.given.dead.now in
    let rounds = c.args.given.rounds in
    let rows = c.args.given.table.now in
    let s = c.args.machine.now in
    let machine = c.loop-index.machine in
    let old = c.loop-index.all in
    let new = c.visit.new.all in
    let index = c.loop-index.index in
    let found = c.in-Exits.found in
    let (first, initial, are) = c.loop-index.invariant.stepped in
    let same = c.loop-index.invariant.same in
    let many = c.loop-index.invariant.many in
    let within : index < length old = omega (arith, c.if-index-len.false, c.len.ensures) in
    let grows = base_grows s machine old new same c.in_ok-found.ensures.grows in
    let good : IsStepVisit dead rounds rows machine old index new (Exits found) = subst (IsStepVisit dead rounds rows machine old index new) c.in-Exits.is c.in_ok-found.ensures.visit in
    let exits : HoldsOf s old (length c.loop-index.exits.items) (λ node. AreExits dead rounds new found.items node.state) =
    subst (λ x. HoldsOf s old x (λ node. AreExits dead rounds new found.items node.state)) (sym many)
    (λ kept at. subst (λ (x : Node). AreExits dead rounds new found.items x.state) (base_node s machine kept same) (good.2 kept at)) in
    record {
      stepped = (
        first,
        initial,
        stepped_next dead rounds rows first s index old new within are grows
            (λ kept at. subst (λ (x : Node). IsJudged rounds rows x Good) (base_node s machine kept same) (good.0 kept at))
            (λ kept at. subst (HasSteps dead rounds rows new) (base_node s machine kept same) (good.1 kept at))
            (λ kept at. base_adds dead rounds rows s machine same index kept old new (c.in_ok-found.ensures.new kept at)),
      );
      same = record { component = c.in_ok-found.ensures.component ∙ same.component; matrix_is = c.in_ok-found.ensures.matrix ∙ same.matrix_is };
      within = longer s old new grows index within;
      many =
          (let long : length (c.loop-index.exits.items ++ found ∷ []) ≡ length c.loop-index.exits.items + 1 = length-append c.loop-index.exits.items (found ∷ []) in
          ap (λ (x : Graph). length x) c.in_ok-push-in-Exits.ensures.items ∙ (long ∙ ap (λ n. n + 1) many));
      exits = exits_next dead rounds s old new c.loop-index.exits.items c.push.new.self.items found c.in_ok-push-in-Exits.ensures.items (omega (arith, many, within)) grows c.loop-index.invariant.exits exits;
    }

use Rattle.std.proofs.Common.{arith, rules, ◌≡◌, ◌<◌, ◌≤◌, false, true, length, refl, sym, ◌∙◌, ap, subst, inl, inr}
use Rattle.std.proofs.lemmas.Bool.{cases_lt}
use Rattle.lu_component.specs.Component.{IsComponent}
use Rattle.lu_machine.specs.States.{State}
use Rattle.lu_machine.specs.Positions.{at_position}
use Rattle.lu_machine.proofs.Starting.{start_component, start_matrix}
use Rattle.lu_graph.proofs.Charted.{can_stand, charts_more, charts_none, explored, many_states}
use Rattle.lu_graph.proofs.exploring_states.explore.Goals as goal

apart : false ≡ true → ⊥
apart e = cc

pub loop-at-init : goal.loop-at-init
loop-at-init g c = record {
  component = start_component c.args.component.now c.args.matrix.now c.in_ok-machine.machine c.in_ok-machine.ensures.starts;
  matrix_is = start_matrix c.args.component.now c.args.matrix.now c.in_ok-machine.machine c.in_ok-machine.ensures.starts;
  base = refl;
  running = c.requires.running;
  charts = charts_none c.args.component.now c.args.matrix.now c.requires.runs.settles c.in_ok-machine.machine c.in_ok-machine.ensures.starts c.in_ok-found.found c.in_ok-found.ensures c.new-ended.result.items c.new-ended.ensures.items;
}

pub returns-then-len-most-clause-explored : goal.returns-then-len-most-clause-explored
returns-then-len-most-clause-explored g c = λ s is.
    (let more : c.args.most < length c.loop-at.found.positions.keys = omega (arith, c.len.ensures.len) in
    many_states c.args.component.now c.args.matrix.now c.requires.runs.settles c.loop-at.found c.loop-at.at c.loop-at.ended.items c.loop-at.invariant.charts c.args.most c.len.ensures.unique more s is)

pub returns-then-len-most-2-clause-explored : goal.returns-then-len-most-2-clause-explored
returns-then-len-most-2-clause-explored g c = λ s is.
    (let more : c.args.most < length c.loop-at.found.positions.keys = omega (arith, c.len-2.ensures.len) in
    many_states c.args.component.now c.args.matrix.now c.requires.runs.settles c.loop-at.found c.loop-at.at c.loop-at.ended.items c.loop-at.invariant.charts c.args.most c.len-2.ensures.unique more s is)

pub returns-in-None-clause-explored : goal.returns-in-None-clause-explored
returns-in-None-clause-explored g c = λ s is.
    (let past : length c.loop-at.found.positions.keys ≤ c.loop-at.at = elim (cases_lt c.loop-at.at (length c.loop-at.found.positions.keys)) as (λ _. length c.loop-at.found.positions.keys ≤ c.loop-at.at) [
      | inl lt ↦ absurd (apart (c.in-None.ensures.found.1 lt))
      | inr le ↦ le
    ] in
    let few : length c.loop-at.found.positions.keys ≤ c.args.most = omega (arith, c.len.ensures.len) in
    explored c.args.component.now c.args.matrix.now c.requires.runs.settles c.loop-at.found c.loop-at.at c.loop-at.ended.items c.loop-at.invariant.charts c.args.most
    (record { found = c.loop-at.found; ended = c.loop-at.ended }) refl refl past few s is)

pub returns-clause-explored : goal.returns-clause-explored
returns-clause-explored g c = λ s is.
    (let few : length c.loop-at.found.positions.keys ≤ c.args.most = omega (arith, c.len-2.ensures.len) in
    let past : length c.loop-at.found.positions.keys ≤ c.loop-at.at = omega (arith, few) in
    explored c.args.component.now c.args.matrix.now c.requires.runs.settles c.loop-at.found c.loop-at.at c.loop-at.ended.items c.loop-at.invariant.charts c.args.most
    (record { found = c.loop-at.found; ended = c.loop-at.ended }) refl refl past few s is)

pub stand_at-requires : goal.stand_at-requires
stand_at-requires g c =
    can_stand c.args.component.now c.args.matrix.now c.requires.runs.settles c.loop-at.found c.loop-at.at c.loop-at.ended.items c.loop-at.invariant.charts
    c.loop-at.machine c.loop-at.invariant.component c.loop-at.invariant.matrix_is c.in-Some.position.now (sym c.in-Some.ensures.key)

pub discover_next-requires : goal.discover_next-requires
discover_next-requires g c =
    subst IsComponent (sym (ap (λ (s : State). s.component) c.stand_at.ensures ∙ c.loop-at.invariant.component)) c.in_ok-machine.ensures.limits.0

pub loop-at-preserved : goal.loop-at-preserved
loop-at-preserved g c =
    let there = at_position c.loop-at.machine c.in-Some.position.now in
    let home : c.discover_next.new.machine ≡ there = c.in_ok-discover_next.ensures.home ∙ c.stand_at.ensures in
    record {
      component = ap (λ (s : State). s.component) home ∙ c.loop-at.invariant.component;
      matrix_is = ap (λ (s : State). s.matrix) home ∙ c.loop-at.invariant.matrix_is;
      base = search rules;
      running = search rules;
      charts = charts_more c.args.component.now c.args.matrix.now c.requires.runs.settles c.loop-at.found c.loop-at.at c.loop-at.ended.items c.loop-at.invariant.charts
          c.loop-at.machine c.loop-at.invariant.component c.loop-at.invariant.matrix_is c.in-Some.position.now (sym c.in-Some.ensures.key)
          c.stand_at.new.self c.stand_at.ensures c.discover_next.new.found c.in_ok-discover_next.ensures.stay c.in_ok-discover_next.ensures.next
          c.has_ended.result c.has_ended.ensures c.push.new.self.items c.in_ok-push.ensures.items;
    }

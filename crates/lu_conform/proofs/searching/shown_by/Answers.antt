use Rattle.std.proofs.Common.{arith, ◌≡◌, ◌<◌, ◌≤◌, Bool, true, false, List, length, sym, ◌∙◌, ap, subst, inl, inr}
use Rattle.lu_component.specs.Component.{Component}
use Rattle.lu_test.specs.declared.schedule.Move.{Move}
use Rattle.lu_test.specs.Matrix.{Matrix}
use Rattle.lu_machine.specs.declared.event.Event.{Event}
use Rattle.lu_recorded.specs.declared.recorded.Recorded.{Recorded}
use Rattle.lu_conform.specs.declared.shown.Shown.{Shown}
use Rattle.lu_conform.specs.declared.shown.Shown.TheVariants.{By, Undecided}
use Rattle.lu_conform.specs.Showing.{IsEndOf, IsShortest, IsShown}
use Rattle.lu_conform.specs.Stages.{stage_of}
use Rattle.std.proofs.lemmas.Bool.{cases_lt}
use Rattle.lu_machine.specs.States.{State}
use Rattle.lu_machine.proofs.Starting.{start_component, start_matrix}
use Rattle.lu_conform.specs.Growing.{AddsNext, Entry}
use Rattle.lu_conform.specs.Packing.{CanStandWith, standing_with}
use Rattle.lu_conform.proofs.Visiting.{are_moves, can_stand, known_more, known_none, none_there, parents_before, shortest_way, too_many}
use Rattle.lu_conform.proofs.searching.shown_by.Goals as goal

pub loop-at-init : goal.loop-at-init
loop-at-init c = record {
  component = start_component c.args.component.now c.args.matrix.now c.in_ok-machine.machine c.in_ok-machine.ensures.starts;
  matrix_is = start_matrix c.args.component.now c.args.matrix.now c.in_ok-machine.machine c.in_ok-machine.ensures.starts;
  known = known_none c.args.component.now c.args.matrix.now c.requires.settles c.args.recorded.now c.in_ok-machine.machine c.in_ok-machine.ensures.starts
      c.new-stages.result.entries c.add.new.stages.entries c.new-stages.ensures.empty c.in_ok-add.ensures;
}

pub returns-then-len-gt-MOST_STAGES : goal.returns-then-len-gt-MOST_STAGES
returns-then-len-gt-MOST_STAGES c =
    inl (too_many c.args.component.now c.args.matrix.now c.requires.settles c.args.recorded.now c.loop-at.stages.entries c.loop-at.at c.loop-at.invariant.known c.len.ensures.unique 262144 (omega (arith, c.len.ensures.len)))

pub returns-then-len-gt-MOST_STAGES-2 : goal.returns-then-len-gt-MOST_STAGES-2
returns-then-len-gt-MOST_STAGES-2 c =
    inl (too_many c.args.component.now c.args.matrix.now c.requires.settles c.args.recorded.now c.loop-at.stages.entries c.loop-at.at c.loop-at.invariant.known c.len-2.ensures.unique 262144 (omega (arith, c.len-2.ensures.len)))

apart : false ≡ true → ⊥
apart e = cc

pub returns-in-None : goal.returns-in-None
returns-in-None c =
    let past : length c.loop-at.stages.entries ≤ c.loop-at.at = elim (cases_lt c.loop-at.at (length c.loop-at.stages.entries)) as (λ _. length c.loop-at.stages.entries ≤ c.loop-at.at) [
      | inl lt ↦ absurd (apart (c.in-None.ensures.found.1 lt))
      | inr le ↦ le
    ] in
    none_there c.args.component.now c.args.matrix.now c.requires.settles c.args.recorded.now c.loop-at.stages.entries c.loop-at.at c.loop-at.invariant.known past

pub returns : goal.returns
returns c =
    let past : length c.loop-at.stages.entries ≤ c.loop-at.at = omega (arith, c.len-2.ensures.len) in
    none_there c.args.component.now c.args.matrix.now c.requires.settles c.args.recorded.now c.loop-at.stages.entries c.loop-at.at c.loop-at.invariant.known past

pub stand_at-requires : goal.stand_at-requires
stand_at-requires c =
    let entry : Entry = (c.in-Some.entry.0.now, c.in-Some.entry.1.now) in
    subst (CanStandWith c.loop-at.machine.component c.loop-at.machine.matrix) (sym c.deref.ensures.value)
    (can_stand c.args.component.now c.args.matrix.now c.requires.settles c.args.recorded.now c.loop-at.stages.entries c.loop-at.at c.loop-at.invariant.known
    c.loop-at.machine c.loop-at.invariant.component c.loop-at.invariant.matrix_is entry (sym c.in-Some.ensures.entry))

pub way_to-requires-clause-parents : goal.way_to-requires-clause-parents
way_to-requires-clause-parents c =
    let entry : Entry = (c.in-Some.entry.0.now, c.in-Some.entry.1.now) in
    parents_before c.args.component.now c.args.matrix.now c.requires.settles c.args.recorded.now c.loop-at.stages.entries c.loop-at.at c.loop-at.invariant.known
    c.loop-at.machine c.loop-at.invariant.component c.loop-at.invariant.matrix_is entry (sym c.in-Some.ensures.entry)

pub by_way-requires : goal.by_way-requires
by_way-requires c =
    let entry : Entry = (c.in-Some.entry.0.now, c.in-Some.entry.1.now) in
    are_moves c.args.component.now c.args.matrix.now c.requires.settles c.args.recorded.now c.loop-at.stages.entries c.loop-at.at c.loop-at.invariant.known
    c.loop-at.machine c.loop-at.invariant.component c.loop-at.invariant.matrix_is entry (sym c.in-Some.ensures.entry) c.in_ok-machine.ensures.limits.0 c.in_ok-machine.ensures.limits.1
    c.in_ok-moves.moves.items c.in_ok-moves.ensures

-- what is said of a shortest schedule
told : (c : Component) (matrix : Matrix) (recorded : Recorded) (moves : List Move) (shown : Shown) → (length moves ≤ 4112 → shown ≡ By moves) → (4112 < length moves → shown ≡ Undecided) → IsShortest c matrix recorded moves → IsShown c matrix recorded shown
told c matrix recorded moves shown short long best =
    elim (cases_lt 4112 (length moves)) as (λ _. IsShown c matrix recorded shown) [
      | inl many ↦ subst (IsShown c matrix recorded) (sym (long many)) (inr (moves, best, many))
      | inr few ↦ subst (IsShown c matrix recorded) (sym (short few)) best
    ]

pub returns-then-is_end : goal.returns-then-is_end
returns-then-is_end c =
    let entry : Entry = (c.in-Some.entry.0.now, c.in-Some.entry.1.now) in
    let stood = c.in_ok-stand_at.ensures.stands ∙ ap (standing_with c.loop-at.machine) c.deref.ensures.value in
    let ends : IsEndOf c.args.recorded.now (stage_of (standing_with c.loop-at.machine entry.0.numbers.items) entry.0.seen) =
    subst (λ (s : State). IsEndOf c.args.recorded.now (stage_of s entry.0.seen)) stood (c.is_end.ensures.0 c.if-is_end.true) in
    told c.args.component.now c.args.matrix.now c.args.recorded.now c.in_ok-moves.moves.items c.by_way.result c.by_way.ensures.short c.by_way.ensures.long
    (shortest_way c.args.component.now c.args.matrix.now c.requires.settles c.args.recorded.now c.loop-at.stages.entries c.loop-at.at c.loop-at.invariant.known
    c.loop-at.machine c.loop-at.invariant.component c.loop-at.invariant.matrix_is entry (sym c.in-Some.ensures.entry) c.in_ok-moves.moves.items c.in_ok-moves.ensures ends)

different : (b : Bool) → b ≡ true → b ≡ false → ⊥
different true p q = cc
different false p q = cc

pub loop-at-preserved : goal.loop-at-preserved
loop-at-preserved c =
    let entry : Entry = (c.in-Some.entry.0.now, c.in-Some.entry.1.now) in
    let there = standing_with c.loop-at.machine entry.0.numbers.items in
    let stood = c.in_ok-stand_at.ensures.stands ∙ ap (standing_with c.loop-at.machine) c.deref.ensures.value in
    let home : c.add_next.new.machine ≡ there = c.in_ok-add_next.ensures.home ∙ stood in
    let as_events : AddsNext c.stand_at.new.machine c.args.recorded.now.history entry.0.seen c.loop-at.at c.loop-at.stages.entries c.add_next.new.stages.entries =
    subst (λ (h : List Event). AddsNext c.stand_at.new.machine h entry.0.seen c.loop-at.at c.loop-at.stages.entries c.add_next.new.stages.entries) c.events-events.ensures.events c.in_ok-add_next.ensures.next in
    let adds : AddsNext there c.args.recorded.now.history entry.0.seen c.loop-at.at c.loop-at.stages.entries c.add_next.new.stages.entries =
    subst (λ (s : State). AddsNext s c.args.recorded.now.history entry.0.seen c.loop-at.at c.loop-at.stages.entries c.add_next.new.stages.entries) stood as_events in
    let not_here : IsEndOf c.args.recorded.now (stage_of there entry.0.seen) → ⊥ =
    λ ends. different c.is_end.result (c.is_end.ensures.1 (subst (λ (s : State). IsEndOf c.args.recorded.now (stage_of s entry.0.seen)) (sym stood) ends)) c.if-is_end.false in
    record {
      component = ap (λ (s : State). s.component) home ∙ c.loop-at.invariant.component;
      matrix_is = ap (λ (s : State). s.matrix) home ∙ c.loop-at.invariant.matrix_is;
      known = known_more c.args.component.now c.args.matrix.now c.requires.settles c.args.recorded.now c.loop-at.stages.entries c.loop-at.at c.loop-at.invariant.known
          c.loop-at.machine c.loop-at.invariant.component c.loop-at.invariant.matrix_is entry (sym c.in-Some.ensures.entry) not_here c.add_next.new.stages.entries adds;
    }

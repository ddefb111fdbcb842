use Rattle.std.proofs.Common.{arith, refl}
use Rattle.std.proofs.lemmas.List.{get_or_default}
use Rattle.lu_linearization.proofs.Monitored.{none_more, none_sticks, some_sticks}
use Rattle.lu_linearization.proofs.stuck.any_can_be_stuck.Goals as goal

pub returns-then-can_be_stuck_at : goal.returns-then-can_be_stuck_at
returns-then-can_be_stuck_at g c =
    let next = g.A.Automaton.next c.args.automaton.now in (
      (λ _. some_sticks next c.args.call c.args.all.now c.loop-one.one-index _ c.loop-one-test.true (λ d. get_or_default c.args.all.now c.loop-one.one-index d _ c.loop-one-test.true) (c.can_be_stuck_at.ensures.0 c.if-can_be_stuck_at.true)),
      (λ _. refl),
    )

pub loop-one-preserved : goal.loop-one-preserved
loop-one-preserved g c =
    let next = g.A.Automaton.next c.args.automaton.now in
    none_more next c.args.call c.args.all.now c.loop-one.one-index _ c.loop-one-test.true (λ d. get_or_default c.args.all.now c.loop-one.one-index d _ c.loop-one-test.true) (λ can_be_stuck. (let is = c.can_be_stuck_at.ensures.1 can_be_stuck in let isnt = c.if-can_be_stuck_at.false in cc)) c.loop-one.invariant

pub returns : goal.returns
returns g c =
    let next = g.A.Automaton.next c.args.automaton.now in (
      (λ e. absurd (cc)),
      (λ some. absurd (none_sticks next c.args.call c.args.all.now c.loop-one.one-index (omega (arith, c.loop-one-test.false)) c.loop-one.invariant some)),
    )

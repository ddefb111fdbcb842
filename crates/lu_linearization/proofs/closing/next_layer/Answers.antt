use Rattle.std.proofs.Common.{arith}
use Rattle.std.proofs.lemmas.List.{get_or_default}
use Rattle.lu_linearization.specs.Monitors.{SomeTakesEffect, by_thread}
use Rattle.lu_linearization.proofs.Layers.{next_end, next_more, one_respects}
use Rattle.lu_linearization.proofs.closing.next_layer.Goals as goal

pub loop-one-preserved : goal.loop-one-preserved
loop-one-preserved g c =
    let next = g.A.Automaton.next c.args.automaton.now in
    let pending_calls = by_thread c.args.pending.now in
    next_more (SomeTakesEffect next pending_calls) (one_respects next pending_calls) c.args.from.now c.loop-one.to.items c.add_effects.new.to.items c.loop-one.one-index _ c.loop-one.invariant c.loop-one-test.true (λ d. get_or_default c.args.from.now c.loop-one.one-index d _ c.loop-one-test.true) c.in_ok-add_effects.ensures

pub returns : goal.returns
returns g c = next_end (SomeTakesEffect (g.A.Automaton.next c.args.automaton.now) (by_thread c.args.pending.now)) c.args.from.now c.loop-one.to.items c.loop-one.one-index (omega (arith, c.loop-one-test.false)) c.loop-one.invariant

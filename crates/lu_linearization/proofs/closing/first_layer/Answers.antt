use Rattle.std.proofs.Common.{arith}
use Rattle.std.proofs.lemmas.List.{get_or_default}
use Rattle.lu_linearization.specs.Monitors.{ThreadTakesEffect, by_thread}
use Rattle.lu_linearization.proofs.Layers.{adds_one, next_end, next_more, of_respects}
use Rattle.lu_linearization.proofs.closing.first_layer.Goals as goal

pub loop-one-preserved : goal.loop-one-preserved
loop-one-preserved g c =
    let next = g.A.Automaton.next c.args.automaton.now in
    let pending_calls = by_thread c.args.pending.now in
    let t = c.args.thread in
    next_more (ThreadTakesEffect next pending_calls t) (of_respects next pending_calls t) c.args.from.now c.loop-one.to.items c.add_any.new.all.items c.loop-one.one-index _ c.loop-one.invariant c.loop-one-test.true (λ d. get_or_default c.args.from.now c.loop-one.one-index d _ c.loop-one-test.true)
    (adds_one (ThreadTakesEffect next pending_calls t) _ c.loop-one.to.items c.add_any.new.all.items c.take_effect-next.result c.take_effect-next.ensures c.in_ok-add_any.ensures)

pub returns : goal.returns
returns g c = next_end (ThreadTakesEffect (g.A.Automaton.next c.args.automaton.now) (by_thread c.args.pending.now) c.args.thread) c.args.from.now c.loop-one.to.items c.loop-one.one-index (omega (arith, c.loop-one-test.false)) c.loop-one.invariant

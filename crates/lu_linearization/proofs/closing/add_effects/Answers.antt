use Rattle.std.proofs.Common.{arith}
use Rattle.lu_linearization.specs.Monitors.{by_thread}
use Rattle.lu_linearization.proofs.Layers.{below_end, below_next, few_pending}
use Rattle.lu_linearization.proofs.closing.add_effects.Goals as goal

pub loop-thread-preserved : goal.loop-thread-preserved
loop-thread-preserved g c =
    below_next (g.A.Automaton.next c.args.automaton.now) (by_thread c.args.pending.now) c.loop-thread.thread c.args.from.now c.args.to.now.items c.loop-thread.to.items c.add_any.new.all.items c.take_effect-next.result c.take_effect-next.ensures c.in_ok-add_any.ensures c.loop-thread.invariant

pub returns : goal.returns
returns g c =
    below_end (g.A.Automaton.next c.args.automaton.now) (by_thread c.args.pending.now) (few_pending c.args.pending.now c.type_inv.pending) c.loop-thread.thread c.args.from.now c.args.to.now.items c.loop-thread.to.items (omega (arith, c.loop-thread-test.false)) c.loop-thread.invariant

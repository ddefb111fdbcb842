use Rattle.std.proofs.Common.{arith, ◌+◌, subst}
use Rattle.std.proofs.lemmas.Bool.Decides.{nat_tests}
use Rattle.lu_linearization.specs.Monitors.{AreNext, Joins, SomeTakesEffect, by_thread}
use Rattle.lu_linearization.proofs.Layers.{closed_early, closed_end, layer_first, layer_next, up_to_first, up_to_next, few_pending}
use Rattle.lu_linearization.proofs.closing.close.Goals as goal

pub loop-round-init : goal.loop-round-init
loop-round-init g c =
    let next = g.A.Automaton.next c.args.automaton.now in
    let pending_calls = by_thread c.args.pending.now in
    let t = c.args.thread in
    let from = c.args.from.now in
    let first = layer_first next pending_calls t from c.in_ok-layer.layer.items c.in_ok-layer.ensures in
    let joins = subst (λ xs. Joins c.in_ok-all.all.items c.add_all.new.all.items xs) c.deref.ensures.value c.in_ok-add_all.ensures in
    record {
      layer = first;
      all = up_to_first next pending_calls t from c.in_ok-all.all.items c.add_all.new.all.items c.in_ok-layer.layer.items c.in_ok-all.ensures.items joins first;
    }

pub loop-round-preserved : goal.loop-round-preserved
loop-round-preserved g c =
    let next = g.A.Automaton.next c.args.automaton.now in
    let pending_calls = by_thread c.args.pending.now in
    let t = c.args.thread in
    let from = c.args.from.now in
    let n = c.loop-round._round + 1 in
    let new = c.in_ok-layer-2.layer.items in
    let leads = subst (λ xs. AreNext (SomeTakesEffect next pending_calls) xs new) c.deref-in-loop-round.ensures.value c.in_ok-layer-2.ensures in
    let more = layer_next next pending_calls t from n c.loop-round.layer.items new (omega arith) c.loop-round.invariant.layer leads in
    let joins = subst (λ xs. Joins c.loop-round.all.items c.add_all-in-loop-round.new.all.items xs) c.deref-in-loop-round-2.ensures.value c.in_ok-add_all-2.ensures in
    record {
      layer = more;
      all = up_to_next next pending_calls t from n c.loop-round.all.items c.add_all-in-loop-round.new.all.items new c.loop-round.invariant.all joins more;
    }

pub returns : goal.returns
returns g c =
    closed_end (g.A.Automaton.next c.args.automaton.now) (by_thread c.args.pending.now) c.args.thread c.args.from.now (few_pending c.args.pending.now c.type_inv.pending) (c.loop-round._round + 1) c.loop-round.all.items (omega (arith, c.loop-round-test.false)) c.loop-round.invariant.all

pub returns-then-is_empty : goal.returns-then-is_empty
returns-then-is_empty g c =
    let next = g.A.Automaton.next c.args.automaton.now in
    let pending_calls = by_thread c.args.pending.now in
    closed_early next pending_calls c.args.thread c.args.from.now (few_pending c.args.pending.now c.type_inv.pending) (c.loop-round._round + 1) c.loop-round.layer.items c.loop-round.all.items (omega arith)
    (grind (arith, nat_tests, c.is_empty.ensures, c.if-is_empty.true, c.loop-round.layer.ok.0))
    c.loop-round.invariant.layer c.loop-round.invariant.all

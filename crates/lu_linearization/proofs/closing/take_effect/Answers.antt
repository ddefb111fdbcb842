use Rattle.std.proofs.Common.{arith, None, ◌∙◌}
use Rattle.std.proofs.lemmas.List.{get_or_default}
use Rattle.lu_linearization.proofs.Entered.{put_tells}
use Rattle.lu_linearization.proofs.closing.take_effect.Goals as goal

pub returns-in-Some-step : goal.returns-in-Some-step
returns-in-Some-step g c =
    let next = g.A.Automaton.next c.args.automaton.now in
    let pending_calls = c.args.pending.now in
    let from = c.args.from.now in
    let t = c.args.thread in
    put_tells next pending_calls from c.with_effect.result t c.in-Some.call c.in-Some-step.outcome c.in-Some-step.state (omega (arith, c.requires, c.with_effect.ensures.long))
    (get_or_default pending_calls t None _ (omega (arith, c.requires, c.type_inv.pending)) ∙ c.in-Some.is)
    (get_or_default from.effects t None _ (omega (arith, c.requires, c.with_effect.ensures.long)) ∙ c.in-None-effects.is)
    c.in-Some-step.ensures c.with_effect.ensures.state c.with_effect.ensures.effects

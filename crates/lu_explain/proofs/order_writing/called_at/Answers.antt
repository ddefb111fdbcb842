use Rattle.std.proofs.Common.{sym, ◌∙◌, arith, add-one}
use Rattle.lu_explain.specs.OrderLines.{is_call}
use Rattle.lu_explain.proofs.Numbered.{number_here, number_later, number_past}
use Rattle.lu_explain.proofs.order_writing.called_at.Goals as goal

pub loop-i-preserved : goal.loop-i-preserved
loop-i-preserved c = rw (add-one c.loop-i.i) (number_later (is_call c.args.a) c.args.events.now c.args.numbers.now c.loop-i.i _ (omega (arith, c.loop-i-test.true, c.min-i-end.ensures)) (omega (arith, c.loop-i-test.true, c.min-i-end.ensures)) (sym c.is_call.ensures ∙ c.if-is_call.false) ∙ c.loop-i.invariant)

pub returns-then-is_call : goal.returns-then-is_call
returns-then-is_call c = sym (sym c.loop-i.invariant ∙ number_here (is_call c.args.a) c.args.events.now c.args.numbers.now c.loop-i.i _ _ (omega (arith, c.loop-i-test.true, c.min-i-end.ensures)) (omega (arith, c.loop-i-test.true, c.min-i-end.ensures)) (sym c.is_call.ensures ∙ c.if-is_call.true))

pub returns : goal.returns
returns c = sym (number_past (is_call c.args.a) c.args.events.now c.args.numbers.now c.loop-i.i c.min-i-end.result c.min-i-end.ensures (omega (arith, c.loop-i-test.false))) ∙ c.loop-i.invariant

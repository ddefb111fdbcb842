use Rattle.std.proofs.Common.{arith, ◌≡◌, ◌+◌, ◌-◌, ◌*◌, min, get_or, refl, subst, ℕ}
use Rattle.lu_machine.specs.Sums.{capped}
use Rattle.lu_orders.proofs.CapOrders.{terms, terms_end, terms_more}
use Rattle.lu_orders.proofs.orders.Orders.with_one.Goals as goal

pub loop-moves-init : goal.loop-moves-init
loop-moves-init c = λ others are. refl

pub loop-moves-preserved : goal.loop-moves-preserved
loop-moves-preserved c = λ others are.
    (let j = c.loop-moves.moves in
    let rest = c.args.left - j in
    let row : get_or c.args.row.now rest 0 ≡ capped (others rest) = are rest (omega arith) in
    let next : c.saturating_add-number.result ≡ capped (c.loop-moves.number + capped (c.in_ok-of.field-0 * get_or c.args.row.now rest 0)) = omega (arith, c.saturating_add-number.ensures, c.saturating_mul.ensures) in
    terms_more others c.args.left j c.loop-moves.number c.in_ok-of.field-0 (get_or c.args.row.now rest 0) c.saturating_add-number.result (c.loop-moves.invariant others are) c.in_ok-of.ensures.number row next)

pub returns-clause-number : goal.returns-clause-number
returns-clause-number c = λ others are.
    (let all : c.loop-moves.moves ≡ min c.args.cap c.args.left + 1 = omega (arith, c.min-moves-end.ensures) in
    terms_end others c.args.cap c.args.left c.loop-moves.number (subst (λ (j : ℕ). c.loop-moves.number ≡ capped (terms others c.args.left j)) all (c.loop-moves.invariant others are)))

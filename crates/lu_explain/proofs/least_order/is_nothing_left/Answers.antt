use Rattle.std.proofs.Common.{get_or, ap, refl, arith}
use Rattle.lu_explain.proofs.Leasts.{nothing_left, left_few}
use Rattle.lu_explain.proofs.least_order.is_nothing_left.Goals as goal

pub returns-then-taken-from : goal.returns-then-taken-from
returns-then-taken-from c =
    let read = ap (λ x. get_or c.args.taken.now x 0) c.from.ensures in
    (λ e. cc, λ left. absurd (omega (arith, read, left_few c.args.history.now c.requires c.args.taken.now left c.loop-t.t)))

pub returns : goal.returns
returns c = (λ e. nothing_left c.args.history.now c.requires c.args.taken.now (λ t lt. c.loop-t.invariant t (omega arith)), λ left. refl)

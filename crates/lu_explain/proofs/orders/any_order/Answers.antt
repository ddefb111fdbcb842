use Rattle.std.proofs.Common.{List, length, subst}
use Rattle.std.specs.Prelude.{MatchOption}
use Rattle.lu_history.specs.declared.serial.SerialOp.{SerialOp}
use Rattle.lu_explain.specs.AnyOrders.{IsFirstBroken, IsInOrder}
use Rattle.lu_explain.proofs.Leasts.{whole_least}
use Rattle.lu_explain.proofs.orders.any_order.Goals as goal

pub returns : goal.returns
returns g c =
    let h = c.args.history.now in
    record {
      least = whole_least _ _ h c.root.ensures.all c.in_ok-order.order c.in_ok-order.ensures.least;
      broken = subst (λ (q : List SerialOp). MatchOption c.first_broken-broken.result (IsInOrder h q (length q)) (IsFirstBroken h q)) c.as_slice.ensures c.first_broken-broken.ensures;
    }

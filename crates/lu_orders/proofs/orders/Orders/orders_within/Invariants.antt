use Rattle.std.proofs.Common.{◌≡◌, ◌-◌, drop, length}
use Rattle.lu_orders.specs.Orders.{AreOrderNumbers, orders_within}
use Rattle.lu_orders.proofs.orders.Orders.orders_within.Given as goal

abbrev pub invariant-loop-back : goal.invariant-loop-back
invariant-loop-back l = record {
  many : length l.row ≡ 257;
  numbers : AreOrderNumbers (λ i. orders_within i (drop (length l.caps - l.back) l.caps)) l.left l.row;
}

use Rattle.std.proofs.Common.{◌≡◌, ℕ}
use Rattle.lu_machine.specs.Sums.{capped}
use Rattle.lu_orders.specs.Orders.{AreOrderNumbers}
use Rattle.lu_orders.proofs.CapOrders.{terms}
use Rattle.lu_orders.proofs.orders.Orders.with_one.Given as goal

abbrev pub invariant-loop-moves : goal.invariant-loop-moves
invariant-loop-moves l = (others : ℕ → ℕ) → AreOrderNumbers others l.left l.row → l.number ≡ capped (terms others l.left l.moves)

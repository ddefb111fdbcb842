use Rattle.std.proofs.Common.{◌≡◌, ◌-◌, ◌≤◌, ℕ, suc, length}
use Rattle.lu_machine.specs.Sums.{capped}
use Rattle.lu_orders.specs.Orders.{IsRow, orders}
use Rattle.lu_orders.proofs.orders.next_row.Given as goal

abbrev pub invariant-loop-b : goal.invariant-loop-b
invariant-loop-b l = record {
  some : 1 ≤ l.b;
  many : length l.next.items ≡ l.b;
  last : (a : ℕ) → IsRow a l.row → l.number ≡ capped (orders (suc a) (l.b - 1));
  row : (a : ℕ) → IsRow a l.row → IsRow (suc a) l.next.items;
}

use Rattle.std.proofs.Common.{◌≡◌, ◌+◌, length, All}
use Rattle.lu_orders.specs.Orders.{AreRows, IsRow}
use Rattle.lu_orders.proofs.orders.Orders.new.Given as goal

abbrev pub invariant-loop-moves : goal.invariant-loop-moves
invariant-loop-moves l = record {
  many : l._moves ≡ length l.rows.items;
  rows : AreRows 0 l.rows.items;
  square : All (λ row. length row ≡ l.most + 1) l.rows.items;
  wide : length l.row.items ≡ l.most + 1;
  row : IsRow l._moves l.row.items;
}

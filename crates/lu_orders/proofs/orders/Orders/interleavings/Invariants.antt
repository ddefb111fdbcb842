use Rattle.std.proofs.Common.{◌≡◌, ◌-◌, length, drop}
use Rattle.lu_machine.specs.Sums.{capped}
use Rattle.lu_orders.specs.Orders.{all_moves, interleavings}
use Rattle.lu_orders.proofs.orders.Orders.interleavings.Given as goal

abbrev pub invariant-loop-i : goal.invariant-loop-i
invariant-loop-i l = record {
  all : l.all ≡ all_moves (drop (length l.lengths - l.i) l.lengths);
  number : l.number ≡ capped (interleavings (drop (length l.lengths - l.i) l.lengths));
}

use Rattle.std.proofs.Common.{◌≡◌, ◌+◌, ◌<◌, ◌≤◌, ℕ, get_or, length}
use Rattle.lu_machine.specs.Sums.{capped}
use Rattle.lu_orders.specs.Orders.{AreOrderNumbers, with_one}
use Rattle.lu_orders.proofs.orders.Orders.add_thread.Given as goal

abbrev pub invariant-loop-back : goal.invariant-loop-back
invariant-loop-back l = record {
  many : length l.row ≡ length l.fn.row;
  done : (others : ℕ → ℕ) → AreOrderNumbers others l.left l.fn.row → (i : ℕ) → i ≤ l.left → l.left < i + l.back → get_or l.row i 0 ≡ capped (with_one others l.cap i);
  rest : (others : ℕ → ℕ) → AreOrderNumbers others l.left l.fn.row → (i : ℕ) → i + l.back ≤ l.left → get_or l.row i 0 ≡ capped (others i);
}

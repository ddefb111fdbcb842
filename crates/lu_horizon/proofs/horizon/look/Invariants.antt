use Rattle.std.proofs.Common.{◌≡◌, ℕ, length}
use Rattle.lu_test.specs.Matrix.{Matrix}
use Rattle.lu_horizon.specs.Tables.{ArePlaces, IsCall}
use Rattle.lu_horizon.proofs.horizon.look.Given as goal

abbrev pub invariant-loop-i : goal.invariant-loop-i
invariant-loop-i l = record {
  many : length l.known.items ≡ length l.code;
  sure : (matrix : Matrix) (t k : ℕ) → IsCall l.component matrix t k l.code l.rest → ArePlaces l.component matrix t k l.fn.known.items → ArePlaces l.component matrix t k l.known.items;
}

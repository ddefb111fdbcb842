use Rattle.std.proofs.Common.{◌≡◌, ℕ, length}
use Rattle.lu_test.specs.Matrix.{Matrix}
use Rattle.lu_horizon.specs.Tables.{ArePlaces, IsCall}
use Rattle.lu_horizon.proofs.horizon.of_code.Given as goal

abbrev pub invariant-loop-further : goal.invariant-loop-further
invariant-loop-further l = record {
  many : length l.outlooks.items ≡ length l.code;
  sure : (matrix : Matrix) (t k : ℕ) → IsCall l.component matrix t k l.code l.rest → ArePlaces l.component matrix t k l.outlooks.items;
}

use Rattle.std.proofs.Common.{◌≤◌, ◌<◌, ℕ, length}
use Rattle.lu_test.specs.Matrix.{calls_of}
use Rattle.lu_forever.specs.Unrolled.{count_at}
use Rattle.lu_forever.proofs.unrolling.are_few.Given as goal

abbrev pub invariant-loop-t : goal.invariant-loop-t
invariant-loop-t l = (t : ℕ) → t < l.t → count_at l.counts t ≤ length (calls_of l.matrix t)

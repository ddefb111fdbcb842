use Rattle.std.proofs.Common.{◌≡◌, ◌<◌, ◌≤◌, ℕ, length, get_or}
use Rattle.lu_test.specs.Matrix.{calls_of}
use Rattle.lu_spec.proofs.fitting.calls_of.Given as goal

abbrev pub invariant-loop-t : goal.invariant-loop-t
invariant-loop-t l = record {
  size : length l.calls ≡ 8;
  made : (t : ℕ) → t < l.t → get_or l.calls t 0 ≡ length (calls_of l.matrix t);
  others : (t : ℕ) → l.t ≤ t → get_or l.calls t 0 ≡ 0;
}

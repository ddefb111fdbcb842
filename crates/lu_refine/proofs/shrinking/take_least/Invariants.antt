use Rattle.std.proofs.Common.{ℕ, ◌<◌}
use Rattle.lu_test.specs.Matrix.{without}
use Rattle.lu_refine.specs.Removals.{IsFailing, HasCallNumber, ComesBefore}
use Rattle.lu_refine.proofs.shrinking.take_least.Given as goal

abbrev pub invariant-loop-k : goal.invariant-loop-k
invariant-loop-k l = (t k : ℕ) → ComesBefore t k l.t l.k → HasCallNumber l.matrix t k → IsFailing l.component l.bound l.serial (without l.matrix t k) → ⊥

abbrev pub invariant-loop-t : goal.invariant-loop-t
invariant-loop-t l = (t k : ℕ) → t < l.t → HasCallNumber l.matrix t k → IsFailing l.component l.bound l.serial (without l.matrix t k) → ⊥

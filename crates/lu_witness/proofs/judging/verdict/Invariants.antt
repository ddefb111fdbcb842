use Rattle.std.proofs.Common.{◌≡◌, ℕ, ◌<◌, true, false}
use Rattle.lu_history.specs.Histories.{pending, IsWellFormed}
use Rattle.lu_history.specs.Parts.{keep_pending}
use Rattle.lu_witness.specs.Witnesses.{IsMember, HasWitness}
use Rattle.lu_witness.proofs.judging.verdict.Given as goal

abbrev pub invariant-loop-t : goal.invariant-loop-t
invariant-loop-t g l = record {
  well : 0 < l.t → IsWellFormed l.history;
  each : (u : ℕ) → u < l.t → pending u l.history ≡ true → HasWitness (IsMember (g.T.SerialTree.members l.tree)) (keep_pending u l.history);
  stuck : l.is_stuck ≡ true → (u : ℕ) × (pending u l.history ≡ true);
  whole : l.is_stuck ≡ false → (u : ℕ) → u < l.t → pending u l.history ≡ true → ⊥;
}

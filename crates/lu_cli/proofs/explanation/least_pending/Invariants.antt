use Rattle.std.specs.Prelude.{◌≡◌, ℕ, ◌<◌, false}
use Rattle.lu_history.specs.Histories.{pending}
use Rattle.lu_cli.proofs.explanation.least_pending.Given as goal

abbrev pub invariant-loop-t : goal.invariant-loop-t
invariant-loop-t l = (u : ℕ) → u < l.t → pending u l.history ≡ false

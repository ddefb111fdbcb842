use Rattle.std.proofs.Common.{◌<◌, ℕ}
use Rattle.lu_graph.specs.Guards.{IsGuardedBy}
use Rattle.lu_graph.proofs.guards.is_guarded.Given as goal

abbrev pub invariant-loop-lock : goal.invariant-loop-lock
invariant-loop-lock l = (m : ℕ) → m < l.lock → IsGuardedBy l.component l.array m → ⊥

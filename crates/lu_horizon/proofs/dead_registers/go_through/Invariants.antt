use Rattle.std.proofs.Common.{◌≡◌, ℕ, ◌+◌, ◌≤◌, false, length}
use Rattle.lu_horizon.specs.Dead.{AreDeadAt}
use Rattle.lu_horizon.specs.Rounds.{IsRound}
use Rattle.lu_horizon.proofs.dead_registers.go_through.Given as goal

abbrev pub invariant-loop-back : goal.invariant-loop-back
invariant-loop-back l = record {
  round : IsRound l.code l.initial.known.items l.known.items l.less;
  settled : l.less ≡ false → (place : ℕ) → length l.code ≤ place + l.back → AreDeadAt l.code l.known.items place;
}

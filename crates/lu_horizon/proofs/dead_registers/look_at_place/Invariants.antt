use Rattle.std.proofs.Common.{◌≡◌, ℕ, ◌<◌, ◌≤◌, false, [], get_or, length}
use Rattle.lu_horizon.specs.Rounds.{IsRound, IsSettledAt}
use Rattle.lu_horizon.proofs.dead_registers.look_at_place.Given as goal

abbrev pub invariant-loop-register : goal.invariant-loop-register
invariant-loop-register l = record {
  round : IsRound l.code l.initial.known.items l.known.items l.less;
  settled : l.less ≡ false → (r : ℕ) → r < l.register → IsSettledAt l.code l.known.items l.place r;
  eight : 0 < l.register → length (get_or l.known.items l.place []) ≤ 8;
}

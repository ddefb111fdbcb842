use Rattle.std.proofs.Common.{◌≡◌, ◌<◌, ℕ, false}
use Rattle.lu_graph.specs.Sections.{IsRound, IsSettledAt, is_inside}
use Rattle.lu_graph.proofs.guards.go_through.Given as goal

abbrev pub invariant-loop-place : goal.invariant-loop-place
invariant-loop-place l = record {
  round : IsRound l.code l.lock l.initial.places.items l.places.items l.less;
  settled : l.less ≡ false → (p : ℕ) → p < l.place → IsSettledAt l.code l.lock (is_inside l.places.items) p;
}

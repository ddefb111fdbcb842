use Rattle.std.proofs.Common.{ℕ, ◌<◌, false, ◌≡◌}
use Rattle.lu_graph.specs.Turns.{is_aside_at}
use Rattle.lu_graph.proofs.growing.turns_at.Given as goal

abbrev pub invariant-loop-thread : goal.invariant-loop-thread
invariant-loop-thread l = (u : ℕ) → u < l.thread → is_aside_at l.guards l.machine u ≡ false

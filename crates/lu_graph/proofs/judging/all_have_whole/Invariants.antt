use Rattle.std.proofs.Common.{ℕ, ◌<◌, Some, true, ◌≡◌}
use Rattle.lu_graph.specs.Judging.{HasWhole, is_waiting}
use Rattle.lu_graph.proofs.judging.all_have_whole.Given as goal

abbrev pub invariant-loop-thread : goal.invariant-loop-thread
invariant-loop-thread l = (t : ℕ) → t < l.thread → is_waiting l.machine t ≡ true → HasWhole l.machine (Some t) l.members l.alive

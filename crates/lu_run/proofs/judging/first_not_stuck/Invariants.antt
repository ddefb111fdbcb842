use Rattle.std.proofs.Common.{ℕ, ◌<◌}
use Rattle.lu_linearization.specs.Monitors.{by_thread}
use Rattle.lu_run.specs.Judging.{StuckIfPending}
use Rattle.lu_run.proofs.judging.first_not_stuck.Given as goal

abbrev pub invariant-loop-thread : goal.invariant-loop-thread
invariant-loop-thread l = (t : ℕ) → t < l.thread → StuckIfPending l.table l.monitor (by_thread l.pending t)

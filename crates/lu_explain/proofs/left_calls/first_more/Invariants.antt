use Rattle.std.proofs.Common.{ℕ, ◌<◌, ◌≤◌, get_or}
use Rattle.lu_explain.proofs.left_calls.first_more.Given as goal

abbrev pub invariant-loop-thread : goal.invariant-loop-thread
invariant-loop-thread l = (u : ℕ) → u < l.thread → get_or l.before u 0 ≤ get_or l.taken u 0

use Rattle.std.proofs.Common.{ℕ, ◌<◌, ◌≤◌, get_or}
use Rattle.lu_history.specs.Histories.{calls}
use Rattle.lu_explain.proofs.least_order.is_nothing_left.Given as goal

abbrev pub invariant-loop-t : goal.invariant-loop-t
invariant-loop-t l = (j : ℕ) → j < l.t → calls j l.history ≤ get_or l.taken j 0

use Rattle.std.proofs.Common.{◌≡◌, ℕ, ◌<◌, get_or}
use Rattle.lu_history.specs.Histories.{calls}
use Rattle.lu_witness.proofs.search.all_taken.Given as goal

abbrev pub invariant-loop-t : goal.invariant-loop-t
invariant-loop-t l = (j : ℕ) → j < l.t → get_or l.taken j 0 ≡ calls j l.history

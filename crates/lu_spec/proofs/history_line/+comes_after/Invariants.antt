use Rattle.std.proofs.Common.{length}
use Rattle.lu_spec.proofs.history_line.+comes_after.Given as goal

-- proposed from what the function passes where it calls itself
abbrev pub decreases-comes_after : goal.decreases-comes_after
decreases-comes_after l = length l.last.now

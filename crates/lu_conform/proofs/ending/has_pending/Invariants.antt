use Rattle.lu_conform.proofs.Ended.{Asked}
use Rattle.lu_conform.proofs.ending.has_pending.Given as goal

abbrev pub invariant-loop-t : goal.invariant-loop-t
invariant-loop-t l = Asked l.history l.t

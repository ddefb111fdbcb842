use Rattle.std.proofs.Common.{◌≡◌, take}
use Rattle.lu_forever.specs.Unrolled.{rows_from}
use Rattle.lu_forever.proofs.unrolling.rows_of.Given as goal

abbrev pub invariant-loop-t : goal.invariant-loop-t
invariant-loop-t l = l.rows.items ≡ take l.t (rows_from l.counts l.lines 0)

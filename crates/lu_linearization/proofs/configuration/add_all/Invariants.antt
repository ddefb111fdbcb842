use Rattle.std.proofs.Common.{take}
use Rattle.lu_linearization.specs.Monitors.{Joins}
use Rattle.lu_linearization.proofs.configuration.add_all.Given as goal

abbrev pub invariant-loop-one : goal.invariant-loop-one
invariant-loop-one l = Joins l.fn.all.items l.all.items (take l.one-index l.more)

use Rattle.lu_spec.specs.FirmEnds.{as_kept}
use Rattle.lu_spec.proofs.FirmSets.{AddedTo}
use Rattle.lu_spec.proofs.firm.add_ends.Given as goal

abbrev pub invariant-loop-i : goal.invariant-loop-i
invariant-loop-i l = AddedTo (as_kept l.outcomes) l.fn.set l.set l.entries l.i

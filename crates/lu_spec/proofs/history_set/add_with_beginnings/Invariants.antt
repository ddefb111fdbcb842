use Rattle.lu_spec.proofs.Listings.{AddedShort}
use Rattle.lu_spec.proofs.history_set.add_with_beginnings.Given as goal

abbrev pub invariant-loop-end : goal.invariant-loop-end
invariant-loop-end l = AddedShort l.fn.set l.set l.history l.end

use Rattle.lu_spec.proofs.FirmSets.{NoneRefused}
use Rattle.lu_spec.proofs.firm.refuses_some.Given as goal

abbrev pub invariant-loop-i : goal.invariant-loop-i
invariant-loop-i l = NoneRefused l.kept l.entries l.i

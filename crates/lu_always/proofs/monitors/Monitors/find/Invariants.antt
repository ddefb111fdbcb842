use Rattle.lu_always.proofs.monitors.Monitors.find.Given as goal

abbrev pub invariant-loop-number : goal.invariant-loop-number
invariant-loop-number l = Unit {0}

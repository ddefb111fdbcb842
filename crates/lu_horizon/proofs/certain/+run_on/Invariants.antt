use Rattle.lu_horizon.proofs.certain.+run_on.Given as goal

abbrev pub decreases-run_on : goal.decreases-run_on
decreases-run_on l = l.most

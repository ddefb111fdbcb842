use Rattle.lu_parallel.proofs.Concluding.{concluded}
use Rattle.lu_parallel.proofs.laws.works_conclude.Goals as goal

pub returns : goal.returns
returns _ = concluded

use Rattle.lu_refute.proofs.Fitting.{learnt_closes}
use Rattle.lu_refute.proofs.laws.learnt_closes.Goals as goal

pub returns : goal.returns
returns _ = learnt_closes

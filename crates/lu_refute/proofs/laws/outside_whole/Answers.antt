use Rattle.lu_refute.proofs.Outside.{outside_whole}
use Rattle.lu_refute.proofs.laws.outside_whole.Goals as goal

pub returns : goal.returns
returns _ = outside_whole

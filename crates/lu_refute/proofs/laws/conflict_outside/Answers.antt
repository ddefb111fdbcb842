use Rattle.lu_refute.proofs.Outside.{conflict_outside}
use Rattle.lu_refute.proofs.laws.conflict_outside.Goals as goal

pub returns : goal.returns
returns _ = conflict_outside

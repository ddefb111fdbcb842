use Rattle.lu_refute.proofs.Outside.{fail_outside}
use Rattle.lu_refute.proofs.laws.fail_outside.Goals as goal

pub returns : goal.returns
returns _ = fail_outside

use Rattle.lu_refute.proofs.Outside.{fail_refutes}
use Rattle.lu_refute.proofs.laws.fail_refutes.Goals as goal

pub returns : goal.returns
returns _ = fail_refutes

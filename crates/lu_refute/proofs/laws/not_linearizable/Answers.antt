use Rattle.lu_refute.proofs.Outside.{not_linearizable}
use Rattle.lu_refute.proofs.laws.not_linearizable.Goals as goal

pub returns : goal.returns
returns _ = not_linearizable

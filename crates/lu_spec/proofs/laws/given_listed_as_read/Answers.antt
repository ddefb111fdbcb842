use Rattle.lu_spec.proofs.FreeFaultLines.{given_told}
use Rattle.lu_spec.proofs.laws.given_listed_as_read.Goals as goal

pub returns : goal.returns
returns _ = given_told

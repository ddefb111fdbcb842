use Rattle.lu_spec.proofs.Faultless.{no_fault}
use Rattle.lu_spec.proofs.laws.no_fault.Goals as goal

pub returns : goal.returns
returns _ = λ matrix text members kind n read fault. no_fault matrix text members kind n read fault

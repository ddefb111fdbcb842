use Rattle.lu_refute.proofs.Own.{own_witness}
use Rattle.lu_refute.proofs.laws.own_witness.Goals as goal

pub returns : goal.returns
returns _ = own_witness

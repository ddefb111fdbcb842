use Rattle.lu_refute.proofs.Own.{made_cut, cut_refutes}
use Rattle.lu_refute.proofs.laws.cut_refutes.Goals as goal

pub returns : goal.returns
returns _ = record { cut = made_cut; refutes = cut_refutes }

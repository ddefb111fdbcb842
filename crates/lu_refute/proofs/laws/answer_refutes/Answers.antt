use Rattle.lu_refute.proofs.Outside.{whole_cut, answer_refutes}
use Rattle.lu_refute.proofs.laws.answer_refutes.Goals as goal

pub returns : goal.returns
returns _ = record { whole = whole_cut; answer = answer_refutes }

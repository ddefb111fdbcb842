use Rattle.lu_refute.proofs.Determined.{one_answer}
use Rattle.lu_refute.proofs.laws.one_answer.Goals as goal

pub returns : goal.returns
returns _ = one_answer

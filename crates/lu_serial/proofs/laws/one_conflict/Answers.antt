use Rattle.lu_serial.proofs.Single.{one_learnt}
use Rattle.lu_serial.proofs.laws.one_conflict.Goals as goal

pub returns : goal.returns
returns c = λ component matrix s bound u i j o p is x y. one_learnt component matrix s bound u i j o p is x y

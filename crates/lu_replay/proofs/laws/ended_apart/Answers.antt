use Rattle.lu_machine.proofs.Ahead.{ended_alone}
use Rattle.lu_replay.proofs.laws.ended_apart.Goals as goal

pub returns : goal.returns
returns _ = λ s u v ended schedule begins. ended_alone s u v ended schedule begins

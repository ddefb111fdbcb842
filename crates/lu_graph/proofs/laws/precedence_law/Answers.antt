use Rattle.lu_graph.proofs.StayAlive.{precedence_is_witness}
use Rattle.lu_graph.proofs.laws.precedence_law.Goals as goal

pub returns : goal.returns
returns _ = precedence_is_witness

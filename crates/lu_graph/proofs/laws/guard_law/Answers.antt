use Rattle.lu_graph.proofs.Guarded.{guarded_is_owned}
use Rattle.lu_graph.proofs.laws.guard_law.Goals as goal

pub returns : goal.returns
returns _ = guarded_is_owned

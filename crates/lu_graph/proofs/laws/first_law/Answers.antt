use Rattle.lu_graph.proofs.Aside.{first_tells_all}
use Rattle.lu_graph.proofs.laws.first_law.Goals as goal

pub returns : goal.returns
returns _ = first_tells_all

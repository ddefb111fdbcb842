use Rattle.lu_graph.proofs.AlikeLaws.{alike_end_alike, alike_go_on}
use Rattle.lu_graph.proofs.laws.alike_laws.Goals as goal

pub returns-clause-go_on : goal.returns-clause-go_on
returns-clause-go_on _ = alike_go_on

pub returns-clause-end : goal.returns-clause-end
returns-clause-end _ = alike_end_alike

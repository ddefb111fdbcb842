use Rattle.lu_serial_graph.proofs.learning.learn_graph_from.Goals as goal

pub returns-in-Some : goal.returns-in-Some
returns-in-Some g c = λ s is. (rw c.in-Some.is at (c.in_ok-graph.ensures.graph s is))

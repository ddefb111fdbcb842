use Rattle.lu_graph.proofs.Sectioned.{AreAccessedBelow}
use Rattle.lu_graph.proofs.guards.Sections.have.Given as goal

abbrev pub invariant-loop-op : goal.invariant-loop-op
invariant-loop-op l = AreAccessedBelow l.component l.array l.self l.op

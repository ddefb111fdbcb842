use Rattle.lu_always.proofs.Edges.{bare_more}
use Rattle.lu_always.proofs.sinks.bare.Goals as goal

pub loop-vertex-preserved : goal.loop-vertex-preserved
loop-vertex-preserved c =
    bare_more c.loop-vertex._vertex c.loop-vertex.graph.items c.push.new.self.items c.new.result c.in_ok-push.ensures.items c.new.ensures.items c.loop-vertex.invariant

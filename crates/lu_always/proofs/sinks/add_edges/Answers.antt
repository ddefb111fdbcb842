use Rattle.std.proofs.Common.{arith}
use Rattle.std.proofs.lemmas.Option.{slice_get-get_or}
use Rattle.lu_always.proofs.Edges.{edges_end, edges_next}
use Rattle.lu_always.proofs.sinks.add_edges.Goals as goal

pub loop-vertex-preserved : goal.loop-vertex-preserved
loop-vertex-preserved c =
    edges_next c.args.from.now c.loop-vertex.vertex-index _ c.args.to c.args.graph.now.items c.loop-vertex.graph.items c.add_edge.new.graph.items (slice_get-get_or c.args.from.now c.loop-vertex.vertex-index 0 (omega arith)) c.loop-vertex.invariant c.in_ok-add_edge.ensures

pub returns : goal.returns
returns c = edges_end c.args.from.now c.loop-vertex.vertex-index c.args.to c.args.graph.now.items c.loop-vertex.graph.items (omega arith) c.loop-vertex.invariant

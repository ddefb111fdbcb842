use Rattle.std.proofs.Common.{arith, refl, subst}
use Rattle.std.proofs.lemmas.Option.{slice_get_read}
use Rattle.lu_always.specs.Marking.{AddsEdges}
use Rattle.lu_always.proofs.Edges.{back_end, back_next}
use Rattle.lu_always.proofs.sinks.sources_in.Goals as goal

pub loop-vertex-preserved : goal.loop-vertex-preserved
loop-vertex-preserved c =
    back_next c.args.graph.now c.loop-vertex.vertex c.index-graph-vertex.result c.in_ok-sources.sources.items c.loop-vertex.sources.items c.add_edges.new.graph.items (slice_get_read c.args.graph.now _ c.loop-vertex.vertex c.index-graph-vertex.result refl c.loop-vertex-test.true c.index-graph-vertex.is) c.loop-vertex.invariant (subst (λ x. AddsEdges x c.loop-vertex.vertex c.loop-vertex.sources.items c.add_edges.new.graph.items) c.as_slice.ensures.value c.in_ok-add_edges.ensures)

pub returns : goal.returns
returns c = back_end c.args.graph.now c.loop-vertex.vertex c.in_ok-sources.sources.items c.loop-vertex.sources.items (omega arith) c.in_ok-sources.ensures c.loop-vertex.invariant

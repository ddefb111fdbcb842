use Rattle.std.proofs.Common.{arith}
use Rattle.std.proofs.lemmas.Option.{slice_get-get_or}
use Rattle.lu_always.proofs.Marked.{marks_end, marks_next}
use Rattle.lu_always.proofs.sinks.Marking.mark_all.Goals as goal

pub loop-vertex-preserved : goal.loop-vertex-preserved
loop-vertex-preserved c =
    marks_next c.args.vertices.now c.loop-vertex.vertex-index _ c.args.self.now c.loop-vertex.self c.mark.new.self (slice_get-get_or c.args.vertices.now c.loop-vertex.vertex-index 0 (omega arith)) c.loop-vertex.invariant c.in_ok-mark.ensures

pub returns : goal.returns
returns c = marks_end c.args.vertices.now c.loop-vertex.vertex-index c.args.self.now c.loop-vertex.self (omega arith) c.loop-vertex.invariant

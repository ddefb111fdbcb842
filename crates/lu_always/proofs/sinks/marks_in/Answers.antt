use Rattle.std.proofs.Common.{arith, ◌≡◌, ◌<◌, length, None, Some, slice_get, refl, subst}
use Rattle.std.proofs.lemmas.Option.{slice_get_read, slice_get_within}
use Rattle.lu_always.specs.Marking.{MarksAll, Takes}
use Rattle.lu_always.proofs.Edges.{row_edges}
use Rattle.lu_always.proofs.Marked.{all_marked, less_to_do, taken_marked, under_way_first, under_way_next}
use Rattle.lu_always.proofs.sinks.marks_in.Goals as goal

pub loop-vertex-init : goal.loop-vertex-init
loop-vertex-init c =
    under_way_first c.args.graph.now c.in_ok-sinks.sinks.items _ c.in_ok-marking.marking c.mark_all.new.self refl c.in_ok-sinks.ensures c.in_ok-marking.ensures (subst (λ x. MarksAll x c.in_ok-marking.marking c.mark_all.new.self) c.as_slice.ensures.value c.in_ok-mark_all.ensures)

pub index-requires : goal.index-requires
index-requires c =
    let takes : Takes c.loop-vertex.marking c.take.new.self (Some c.in-Some.vertex) = c.in-Some.ensures in
    let marked = taken_marked c.args.graph.now c.loop-vertex.marking c.take.new.self c.in-Some.vertex c.loop-vertex.invariant takes in
    let within = slice_get_within c.loop-vertex.marking.marks.items c.in-Some.vertex _ marked in
    let same = c.loop-vertex.invariant.same in
    let backwards = c.in_ok-sources.ensures.same in
    let long = c.in_ok-sources.sources.ok.0 in
    omega (arith, within, same, backwards, long)

pub loop-vertex-preserved : goal.loop-vertex-preserved
loop-vertex-preserved c =
    let takes : Takes c.loop-vertex.marking c.take.new.self (Some c.in-Some.vertex) = c.in-Some.ensures in
    let marked = taken_marked c.args.graph.now c.loop-vertex.marking c.take.new.self c.in-Some.vertex c.loop-vertex.invariant takes in
    let within = slice_get_within c.loop-vertex.marking.marks.items c.in-Some.vertex _ marked in
    let same = c.loop-vertex.invariant.same in
    let backwards = c.in_ok-sources.ensures.same in
    let lt : c.in-Some.vertex < length c.in_ok-sources.sources.items = omega (arith, within, same, backwards) in
    let at : slice_get c.in_ok-sources.sources.items c.in-Some.vertex ≡ Some c.index.result.now = slice_get_read c.in_ok-sources.sources.items _ c.in-Some.vertex c.index.result.now refl lt c.index.ensures in
    under_way_next c.args.graph.now c.in_ok-sources.sources.items c.loop-vertex.marking c.take.new.self c.mark_all-in-Some.new.self c.in-Some.vertex c.as_slice-in-Some.result.now c.in_ok-sources.ensures c.loop-vertex.invariant takes
    (rw c.as_slice-in-Some.ensures.value (row_edges c.in_ok-sources.sources.items c.in-Some.vertex c.index.result.now at)) c.in_ok-mark_all-2.ensures

pub loop-vertex-smaller : goal.loop-vertex-smaller
loop-vertex-smaller c =
    let takes : Takes c.loop-vertex.marking c.take.new.self (Some c.in-Some.vertex) = c.in-Some.ensures in
    less_to_do c.loop-vertex.marking c.take.new.self c.mark_all-in-Some.new.self c.in-Some.vertex c.as_slice-in-Some.result.now takes c.in_ok-mark_all-2.ensures

pub returns : goal.returns
returns c =
    let takes : Takes c.loop-vertex.marking c.take.new.self None = subst (Takes c.loop-vertex.marking c.take.new.self) c.in_default.is c.take.ensures in
    all_marked c.args.graph.now c.loop-vertex.marking c.take.new.self c.loop-vertex.invariant takes

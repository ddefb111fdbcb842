use Rattle.std.proofs.Common.{arith, ◌≡◌, ◌∷◌, [], ◌++◌, Some, slice_get, refl, sym, ◌∙◌, ap, subst}
use Rattle.std.proofs.lemmas.Option.{slice_get_read}
use Rattle.lu_always.proofs.Edges.{AreSinksBefore, row_empty, row_some, sinks_end, sinks_more, sinks_same}
use Rattle.lu_always.proofs.sinks.sinks_in.Goals.{then-is_empty+in_ok-push, else-is_empty}
use Rattle.lu_always.proofs.sinks.sinks_in.Goals as goal

pub loop-vertex-preserved : goal.loop-vertex-preserved
loop-vertex-preserved c =
    let graph = c.args.graph.now in
    let vertex = c.loop-vertex.vertex in
    let row = c.index-graph-vertex.result in
    let at : slice_get graph vertex ≡ Some row = slice_get_read graph _ vertex row refl c.loop-vertex-test.true c.index-graph-vertex.is in
    elim c.if-is_empty.branch [
      | then-is_empty+in_ok-push w ↦
          (let none = row_empty row c.is_empty.result c.is_empty.ensures w.if-is_empty.true in
          let is : c.if-is_empty.sinks.items ≡ c.loop-vertex.sinks.items ++ vertex ∷ [] = ap (λ x. x.items) w.sinks-is ∙ w.in_ok-push.ensures.items in
          subst (AreSinksBefore graph _) (sym is) (sinks_more graph vertex row c.loop-vertex.sinks.items at none c.loop-vertex.invariant))
      | else-is_empty w ↦
          (let some = row_some row c.is_empty.result c.is_empty.ensures w.if-is_empty.false in
          subst (AreSinksBefore graph _) (sym (ap (λ x. x.items) w.sinks-is)) (sinks_same graph vertex row c.loop-vertex.sinks.items at some c.loop-vertex.invariant))
    ]

pub returns : goal.returns
returns c = sinks_end c.args.graph.now c.loop-vertex.vertex c.loop-vertex.sinks.items (omega arith) c.loop-vertex.invariant

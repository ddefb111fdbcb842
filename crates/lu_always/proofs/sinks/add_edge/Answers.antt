use Rattle.std.proofs.Common.{arith, ◌<◌, length, refl}
use Rattle.std.proofs.lemmas.Option.{slice_get_read}
use Rattle.lu_always.proofs.Edges.{adds_edge}
use Rattle.lu_always.proofs.sinks.add_edge.Goals as goal

pub returns-in_ok-push : goal.returns-in_ok-push
returns-in_ok-push c =
    let long = c.args.graph.now.ok.0 in
    let lt : c.args.from < length c.args.graph.now.items = omega (arith, long) in
    adds_edge c.args.graph.now.items _ c.args.from c.args.to c.index_mut.result.now c.push.new.self (slice_get_read c.args.graph.now.items _ c.args.from c.index_mut.result.now refl lt c.index_mut.ensures.value) c.in_ok-push.ensures.items refl

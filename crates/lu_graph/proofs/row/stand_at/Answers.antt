use Rattle.std.proofs.Common.{◌≡◌, length, sym, ◌∙◌, ap}
use Rattle.lu_test.specs.Matrix.{thread_count}
use Rattle.lu_graph.specs.Growing.{state_of}
use Rattle.lu_graph.proofs.Same.{one_node}
use Rattle.lu_graph.proofs.Stood.{is_read, stands_read, stood_read}
use Rattle.lu_graph.proofs.row.stand_at.Goals as goal

pub stand_with-requires : goal.stand_with-requires
stand_with-requires c =
    let kept = c.requires.0 in
    let can = c.requires.2 in
    let cells = c.list_with-cells.result.now in
    let locks = c.list_with-locks.result.now in
    let threads = c.threads_with-threads.result in
    let read = is_read c.args.parts.now c.args.row.now kept cells locks threads c.requires.1 c.list_with-cells.ensures c.list_with-locks.ensures c.threads_with-threads.ensures in
    let long : c.from-count.result ≡ length kept.threads = c.from-count.ensures ∙ (c.threads.ensures.threads ∙ (ap thread_count c.matrix.ensures ∙ sym can.threads)) in
    stands_read kept cells locks threads c.from-count.result read long c.args.machine.now.component c.args.machine.now.matrix can

pub returns : goal.returns
returns c = λ one is.
    (let kept = c.requires.0 in
    let can = c.requires.2 in
    let cells = c.list_with-cells.result.now in
    let locks = c.list_with-locks.result.now in
    let threads = c.threads_with-threads.result in
    let read = is_read c.args.parts.now c.args.row.now kept cells locks threads c.requires.1 c.list_with-cells.ensures c.list_with-locks.ensures c.threads_with-threads.ensures in
    let long : c.from-count.result ≡ length kept.threads = c.from-count.ensures ∙ (c.threads.ensures.threads ∙ (ap thread_count c.matrix.ensures ∙ sym can.threads)) in
    let same = one_node c.args.parts.now kept one c.args.row.now c.requires.1 is in
    c.stand_with.ensures ∙ (stood_read kept cells locks threads c.from-count.result read long c.args.machine.now ∙ ap (state_of c.args.machine.now.component c.args.machine.now.matrix) same))

use Rattle.std.proofs.Common.{rules, ◌≡◌, false, true}
use Rattle.lu_graph.proofs.Counted.{left_next, left_none, left_past}
use Rattle.lu_graph.proofs.alive.are_called.Goals.{then-thread-ge8-via-then-thread-ge8, then-thread-ge8-via-else-thread-ge8+then-left-thread-eq0}
use Rattle.lu_graph.proofs.alive.are_called.Goals as goal

pub returns-then-thread-ge8 : goal.returns-then-thread-ge8
returns-then-thread-ge8 c =
    let called = c.args.called.now in
    let front = c.args.front.now in
    let i = c.loop-op.op-index in
    let left = c.loop-op.left in
    let so_far = c.loop-op.invariant in
    let within = c.loop-op-test.true in
    let u = c.from-thread.result in
    let here = c.from-thread.ensures in (
      (λ x. absurd (cc)),
      (λ few. elim c.then-thread-ge8.branch as (λ _. false ≡ true) [
        | then-thread-ge8-via-then-thread-ge8 w ↦ absurd (left_past called front i left so_far _ within u here (let many = so_far.many in let past = w.if-thread-ge8.true in search (rules, many, past)) few)
        | then-thread-ge8-via-else-thread-ge8+then-left-thread-eq0 w ↦ absurd (left_none called front i left so_far _ within u here w.if-left-thread-eq0.true few)
      ]),
    )

pub loop-op-preserved : goal.loop-op-preserved
loop-op-preserved c =
    left_next c.args.called.now c.args.front.now c.loop-op.op-index c.loop-op.left c.loop-op.invariant _ c.loop-op-test.true c.from-thread.result c.from-thread.ensures c.if-left-thread-eq0.false (search rules)

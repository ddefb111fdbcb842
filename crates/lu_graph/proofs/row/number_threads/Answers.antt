use Rattle.std.proofs.Common.{arith, ◌+◌, ◌<◌, replicate, set, refl, ap, sym, ◌∙◌, subst}
use Rattle.lu_graph.proofs.Many.{some_at}
use Rattle.lu_graph.proofs.Numbers.{AreNumbersSoFar, all_zero, so_far_all, so_far_first, so_far_more}
use Rattle.lu_graph.proofs.row.number_threads.Goals.{in-Some+in_ok-numbers, in_default}
use Rattle.lu_graph.proofs.row.number_threads.Goals as goal

pub loop-thread-init : goal.loop-thread-init
loop-thread-init c =
    so_far_first c.args.dead.now c.args.machine.now c.args.table.now.keys (replicate 8 0) refl (all_zero 8)

pub loop-thread-preserved : goal.loop-thread-preserved
loop-thread-preserved c =
    let s = c.args.machine.now in
    let dead = c.args.dead.now in
    let old = c.args.table.now.keys in
    let done = c.loop-thread.thread in
    let few : done < 8 = omega (arith, c.loop-thread-test.true, c.threads-thread-end.ensures.value, c.threads-thread-end.ensures.few) in
    elim c.match-standing.branch as (λ _. AreNumbersSoFar c.args.dead.now c.args.machine.now c.args.table.now.keys c.match-standing.table.keys (c.loop-thread.thread + 1) c.match-standing.numbers) [
      | in-Some+in_ok-numbers w ↦ subst (λ x. AreNumbersSoFar dead s old x.keys (done + 1) c.match-standing.numbers) (sym w.table-is)
          (so_far_more dead s old c.loop-thread.table.keys w.number_of.new.table.keys done w.in_ok-numbers.field-0 c.loop-thread.numbers c.match-standing.numbers w.in-Some.standing.now w.live.result c.loop-thread.invariant few
          (sym w.in-Some.ensures.value) w.in-Some.ensures.stands w.in-Some.ensures.in_code w.live.ensures w.in_ok-numbers.ensures (w.numbers-is ∙ ap (λ k. set c.loop-thread.numbers k w.in_ok-numbers.field-0) w.from-index.ensures))
      | in_default w ↦ absurd
          (let one = some_at s.threads done (omega (arith, c.loop-thread-test.true, c.threads-thread-end.ensures.value)) in
          let wrong = w.in_default.ensures.value ∙ one.1 in
          cc)
    ]

pub returns : goal.returns
returns c =
    so_far_all c.args.dead.now c.args.machine.now c.args.table.now.keys c.loop-thread.table.keys c.loop-thread.thread c.loop-thread.numbers c.loop-thread.invariant
    (omega (arith, c.loop-thread-test.false, c.threads-thread-end.ensures.value))

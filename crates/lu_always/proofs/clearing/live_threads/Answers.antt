use Rattle.std.proofs.Common.{arith, ◌+◌, sym, subst}
use Rattle.lu_always.proofs.Cleared.{AreLiveBefore, live_all, live_next, live_there}
use Rattle.lu_always.proofs.clearing.live_threads.Goals.{in-None, in-Some+in_ok-push-in-Some}
use Rattle.lu_always.proofs.clearing.live_threads.Goals as goal

pub loop-thread-preserved : goal.loop-thread-preserved
loop-thread-preserved c =
    let s = c.args.machine.now in
    let dead = c.args.dead.now in
    let n = c.loop-thread.thread in
    elim c.match-standing.branch [
      | in-None w ↦ absurd (live_there dead s n (omega (arith, c.loop-thread-test.true, c.threads-thread-end.ensures.value)) w.in-None.ensures.value)
      | in-Some+in_ok-push-in-Some w ↦
          subst (λ x. AreLiveBefore dead s (n + 1) x.items) (sym w.all-is)
          (subst (AreLiveBefore dead s (n + 1)) (sym w.in_ok-push-in-Some.ensures.items)
          (live_next dead s n c.loop-thread.all.items w.in-Some.standing.now w.live.result c.loop-thread.invariant w.in-Some.ensures.value w.in-Some.ensures.stands w.in-Some.ensures.in_code w.live.ensures))
    ]

pub returns-clause-live : goal.returns-clause-live
returns-clause-live c =
    live_all c.args.dead.now c.args.machine.now c.loop-thread.thread c.loop-thread.all.items (omega (arith, c.threads-thread-end.ensures.value, c.loop-thread-test.false)) c.loop-thread.invariant

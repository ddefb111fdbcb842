use Rattle.std.proofs.Common.{arith, ◌∙◌, subst}
use Rattle.lu_machine.specs.States.{State}
use Rattle.lu_always.specs.StepSearch.{IsBadCallOf, IsFineCallOf}
use Rattle.lu_always.proofs.CallsJudged.{fine_all, fine_next}
use Rattle.lu_always.proofs.judging.first_bad_call.Goals as goal

pub returns-then-bad-clause-first : goal.returns-then-bad-clause-first
returns-then-bad-clause-first c =
    subst (λ (x : State). IsBadCallOf c.args.given x c.args.monitor.now c.loop-thread.thread) c.loop-thread.invariant.same (c.in_ok-bad.ensures.bad c.if-bad.true)

pub loop-thread-preserved : goal.loop-thread-preserved
loop-thread-preserved c =
    let same = c.loop-thread.invariant.same in
    record {
      same = c.in_ok-bad.ensures.home ∙ same;
      fine =
          fine_next c.args.given.rounds c.args.given.table.now c.args.machine.now c.args.monitor.now c.loop-thread.thread c.loop-thread.invariant.fine
          (subst (λ (x : State). IsFineCallOf c.args.given x c.args.monitor.now c.loop-thread.thread) same (c.in_ok-bad.ensures.fine c.if-bad.false));
    }

pub returns-clause-first : goal.returns-clause-first
returns-clause-first c =
    fine_all c.args.given.rounds c.args.given.table.now c.args.machine.now c.args.monitor.now c.loop-thread.thread
    (omega (arith, c.threads-thread-end.ensures.value, c.loop-thread-test.false)) c.loop-thread.invariant.fine

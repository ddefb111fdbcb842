use Rattle.lu_machine.specs.States.{State}
use Rattle.lu_machine.specs.Starts.{IsStart}
use Rattle.lu_witness.specs.Witnesses.{IsMember}
use Rattle.lu_refute.proofs.Failing.{infeasible_refutes, refutes_by, by_refutes}
use Rattle.lu_refute.proofs.refuting.refutes.Goals as goal

pub returns-in-Ok : goal.returns-in-Ok
returns-in-Ok c =
    λ (s : State) (is : IsStart c.args.test.component.now c.args.test.matrix.now s). (
      λ yes. let bad = c.is_bad.ensures.0 yes in refutes_by c.args.test.component.now c.args.test.matrix.now s is (IsMember c.args.set.now) c.args.schedule.now c.in-Ok.shown.status c.in-Ok.shown.history c.in-Ok.ensures.shows c.in-Ok.ensures.well_formed c.verdict.result c.verdict.ensures bad.0 bad.1,
      λ r. c.is_bad.ensures.1 (by_refutes c.args.test.component.now c.args.test.matrix.now s is (IsMember c.args.set.now) c.args.schedule.now c.in-Ok.shown.status c.in-Ok.shown.history c.in-Ok.ensures.shows c.in-Ok.ensures.well_formed c.verdict.result c.verdict.ensures r),
    )

pub returns-in-Err-Infeasible : goal.returns-in-Err-Infeasible
returns-in-Err-Infeasible c =
    λ (s : State) (is : IsStart c.args.test.component.now c.args.test.matrix.now s).
    let at = rw c.in-Err-Infeasible.field-0-is at c.in-Err-Infeasible.ensures.fault in (
      λ no. absurd cc,
      λ r. absurd (infeasible_refutes c.args.test.component.now c.args.test.matrix.now s is (IsMember c.args.set.now) c.args.schedule.now c.in-Err-Infeasible.field-0-0 at r),
    )

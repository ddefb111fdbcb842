use Rattle.std.proofs.Common.{◌≤◌, length, arith}
use Rattle.lu_machine.specs.States.{State}
use Rattle.lu_machine.specs.Starts.{IsStart}
use Rattle.lu_witness.specs.Witnesses.{IsMember}
use Rattle.lu_replay.proofs.RunsAnew.{reason_bad, bad_reason, infeasible_not_bad}
use Rattle.lu_replay.proofs.confirming.holds.Goals as goal

pub returns-in-Ok : goal.returns-in-Ok
returns-in-Ok g c =
    λ (s : State) (is : IsStart c.args.test.component.now c.args.test.matrix.now s).
    let short : length c.args.claim.schedule.now ≤ c.args.claim.bound = rw (← c.moves.ensures.moves) (omega (arith, c.from.ensures)) in (
      λ yes. reason_bad c.args.test.component.now c.args.test.matrix.now s is (IsMember (g.T.SerialTree.members c.args.tree.now)) c.args.claim.bound c.args.claim.schedule.now c.in-Ok.shown.status c.in-Ok.shown.history c.in-Ok.ensures.shows c.in-Ok.ensures.well_formed c.verdict-verdict.result c.verdict-verdict.ensures c.args.claim.why short (c.is_reason.ensures.0 yes),
      λ bad. c.is_reason.ensures.1 (bad_reason c.args.test.component.now c.args.test.matrix.now s is (IsMember (g.T.SerialTree.members c.args.tree.now)) c.args.claim.bound c.args.claim.schedule.now c.in-Ok.shown.status c.in-Ok.shown.history c.in-Ok.ensures.shows c.in-Ok.ensures.well_formed c.verdict-verdict.result c.verdict-verdict.ensures c.args.claim.why bad),
    )

pub returns-in-Err-Infeasible : goal.returns-in-Err-Infeasible
returns-in-Err-Infeasible g c =
    λ (s : State) (is : IsStart c.args.test.component.now c.args.test.matrix.now s).
    let at = rw c.in-Err-Infeasible.field-0-is at c.in-Err-Infeasible.ensures.fault in (
      λ no. absurd cc,
      λ bad. absurd (infeasible_not_bad c.args.test.component.now c.args.test.matrix.now s is (IsMember (g.T.SerialTree.members c.args.tree.now)) c.args.claim.bound c.args.claim.schedule.now c.in-Err-Infeasible.field-0-0 c.args.claim.why at bad),
    )

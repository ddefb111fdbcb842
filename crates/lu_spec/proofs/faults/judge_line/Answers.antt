use Rattle.std.proofs.Common.{subst}
use Rattle.lu_spec.specs.Reading.{IsRefusal}
use Rattle.lu_spec.proofs.FaultLines.{next_left}
use Rattle.lu_spec.proofs.faults.judge_line.Goals as goal

pub with_history-requires : goal.with_history-requires
with_history-requires c = (c.in-Ok.ensures.next c.requires.0 c.requires.1).is.1.serial

pub returns-in_ok-next-in-Ok : goal.returns-in_ok-next-in-Ok
returns-in_ok-next-in-Ok c = λ gathered are.
    let next = c.in-Ok.ensures.next gathered are in
    ((c.in-Ok.history.items, next), next_left c.args.matrix.now gathered c.args.line.now c.args.draft c.in_ok-next-in-Ok.next c.in-Ok.history.items next c.in_ok-next-in-Ok.ensures.set c.in_ok-next-in-Ok.ensures.last are)

pub returns-in_ok-next-in-Err-At : goal.returns-in_ok-next-in-Err-At
returns-in_ok-next-in-Err-At c = λ gathered are.
    let refusal = subst (IsRefusal c.args.matrix.now gathered c.args.line.now c.args.number) c.in-Err-At.field-0-is (c.in-Err-At.ensures.fault gathered are) in
    (refusal, c.in_ok-next-in-Err-At.ensures gathered are)

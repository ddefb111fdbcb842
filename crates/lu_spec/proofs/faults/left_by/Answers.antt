use Rattle.lu_spec.proofs.FaultLines.{none_left, one_left}
use Rattle.lu_spec.proofs.Nexts.{draft_spec}
use Rattle.lu_spec.proofs.faults.left_by.Goals as goal

pub taken_in-requires : goal.taken_in-requires
taken_in-requires c = (draft_spec c.args.matrix.now c.requires.0 c.args.draft.set c.args.draft.last.items c.requires.1).deterministic

pub returns-in-None : goal.returns-in-None
returns-in-None c = λ gathered are. none_left c.args.matrix.now gathered c.args.line.now c.args.draft (rw c.in-None.is at c.in_ok-taken_in.ensures.none) are

pub with_history-requires : goal.with_history-requires
with_history-requires c =
    let taken = rw c.in-Some.is at c.in_ok-taken_in.ensures.some in
    taken.says.0.serial

pub returns-in_ok-next-in-Some : goal.returns-in_ok-next-in-Some
returns-in_ok-next-in-Some c = λ gathered are.
    let taken = rw c.in-Some.is at c.in_ok-taken_in.ensures.some in
    one_left c.args.matrix.now gathered c.args.line.now c.args.draft c.in_ok-next-in-Some.next c.in-Some.history.items taken c.in_ok-next-in-Some.ensures.set c.in_ok-next-in-Some.ensures.last are

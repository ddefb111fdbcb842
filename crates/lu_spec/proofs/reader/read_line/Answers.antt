use Rattle.std.proofs.lemmas.Result.{err_from_is_err_and}
use Rattle.lu_spec.proofs.Nexts.{gathering, next_draft}
use Rattle.lu_spec.proofs.reader.read_line.Goals as goal

pub next_history-requires : goal.next_history-requires
next_history-requires c = (c.requires.0, gathering c.args.matrix.now c.requires.0 c.args.draft.set c.args.draft.last.items c.requires.1)

pub returns-in_err-history-clause-fault : goal.returns-in_err-history-clause-fault
returns-in_err-history-clause-fault c = λ gathered draft.
    let p = err_from_is_err_and c.from_residual.result c.from_residual.ensures.1 in
    rw (p.1, p.2) (c.in_err-history.ensures.fault gathered draft)

pub with_history-requires : goal.with_history-requires
with_history-requires c =
    let gathered = gathering c.args.matrix.now c.requires.0 c.args.draft.set c.args.draft.last.items c.requires.1 in
    let next = c.in_ok-history.ensures.next c.requires.0 gathered in
    next.is.1.serial

pub returns-clause-next : goal.returns-clause-next
returns-clause-next c = λ listed draft.
    let gathered = gathering c.args.matrix.now listed c.args.draft.set c.args.draft.last.items draft in
    let next = next_draft c.args.matrix.now listed c.args.draft.set c.args.draft.last.items draft c.args.line.now c.in_ok-history.history.items (c.in_ok-history.ensures.next listed gathered) c.in_ok-next.next.set c.in_ok-next.ensures.set in
    rw c.in_ok-next.ensures.last next

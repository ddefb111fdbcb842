use Rattle.std.specs.Prelude.{IfOk}
use Rattle.std.proofs.Common.{[], sym, subst}
use Rattle.std.proofs.lemmas.Result.{IfOk-weaker}
use Rattle.lu_linearization.specs.Monitors.{AreClosed, by_thread}
use Rattle.lu_always.specs.Nodes.{IsAfterEvent, waits_in}
use Rattle.lu_answers.specs.Tables.{Goes, table_of}
use Rattle.lu_answers.proofs.Closed.{closed_same}
use Rattle.lu_always.proofs.following.after_event.Goals as goal

pub returns-in-Call : goal.returns-in-Call
returns-in-Call c =
    let table = table_of [] c.args.table.now in
    let t = c.in-Call.t in
    subst (λ e. IfOk c.call.result (λ next. IsAfterEvent table c.args.machine.now e c.args.monitor.now next)) (sym c.in-Call.is)
    (IfOk-weaker c.call.result (AreClosed (Goes table) (by_thread c.pending.result) t c.args.monitor.now) (AreClosed (Goes table) (waits_in c.args.machine.now) t c.args.monitor.now)
    (closed_same table (by_thread c.pending.result) (waits_in c.args.machine.now) c.pending.ensures (λ u. sym (c.pending.ensures u)) t c.args.monitor.now)
    c.call.ensures)

use Rattle.std.proofs.Common.{append-nil, sym, arith}
use Rattle.lu_machine.specs.declared.event.Event.TheVariants.{Call}
use Rattle.lu_lint.proofs.Played.{entries_more}
use Rattle.lu_lint.proofs.serial_runs.entries_of.Goals as goal
use Rattle.lu_lint.proofs.serial_runs.entries_of.Goals.{in-Call, in-Return+in_ok-push-in-Return}

pub loop-event-preserved : goal.loop-event-preserved
loop-event-preserved c =
    elim c.match-event.branch [
      | in-Call w ↦ entries_more c.args.history.now c.loop-event.event-index (Call 0 0) _ _ (omega arith) c.loop-event.invariant (rw (w.entries-is, w.in-Call.is) (sym (append-nil c.loop-event.entries.items)))
      | in-Return+in_ok-push-in-Return w ↦ entries_more c.args.history.now c.loop-event.event-index (Call 0 0) _ _ (omega arith) c.loop-event.invariant (rw (w.entries-is, w.in-Return.is, ← w.from.ensures) w.in_ok-push-in-Return.ensures.items)
    ]

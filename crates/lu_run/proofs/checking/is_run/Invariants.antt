use Rattle.std.proofs.Common.{take}
use Rattle.lu_run.specs.Checking.{TellsPending}
use Rattle.lu_run.specs.Runs.{IsRun, history_of}
use Rattle.lu_run.proofs.checking.is_run.Given as goal

abbrev pub invariant-loop-event : goal.invariant-loop-event
invariant-loop-event l = record {
  run : IsRun l.run.calls.items (take l.event-index l.run.events.items);
  tells : TellsPending l.pending (history_of (take l.event-index l.run.events.items));
}

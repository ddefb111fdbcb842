use Rattle.std.proofs.Common.{◌≡◌, drop}
use Rattle.lu_run.specs.Verdicts.{last_call, last_call_after}
use Rattle.lu_run.proofs.verdicts.last_call.Given as goal

abbrev pub invariant-loop-event : goal.invariant-loop-event
invariant-loop-event l =
    last_call_after l.last l.thread (drop l.event-index l.events) ≡ last_call l.thread l.events

use Rattle.std.proofs.Common.{◌≡◌, ◌≤◌, drop}
use Rattle.lu_run.specs.Endings.{since_quiet, since_quiet_after}
use Rattle.lu_run.proofs.ending.since_quiet.Given as goal

abbrev pub invariant-loop-event : goal.invariant-loop-event
invariant-loop-event l = record {
  number : since_quiet_after l.since l.pending (drop l.event-index l.events) ≡ since_quiet l.events;
  since : l.since ≤ l.event-index;
  pending : l.pending ≤ l.event-index;
}

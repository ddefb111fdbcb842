use Rattle.std.proofs.Common.{◌≡◌, ◌≤◌, ◌++◌, List, length}
use Rattle.lu_run.specs.declared.run.RunEvent.{RunEvent}
use Rattle.lu_run.specs.Offending.{Learns}
use Rattle.lu_run.specs.Ordering.{IsReplay}
use Rattle.lu_run.proofs.ordering.play_threads.Given as goal

abbrev pub invariant-loop-step : goal.invariant-loop-step
invariant-loop-step l = record {
  learns : Learns l.fn.runs.component.now l.fn.runs.calls.now l.fn.table l.table;
  within : l.now.attempt.events ≤ length l.events;
  replays : (events rest : List RunEvent) → events ≡ l.events ++ rest → IsReplay l.fn.runs.component.now l.fn.runs.calls.now events l.fn.table l.table l.now;
}

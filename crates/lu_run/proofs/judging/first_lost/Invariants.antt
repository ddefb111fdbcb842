use Rattle.std.proofs.Common.{◌<◌, ◌≤◌, ◌-◌, length}
use Rattle.lu_run.specs.Offending.{Learns}
use Rattle.lu_run.proofs.Halving.{AreBounds}
use Rattle.lu_run.proofs.judging.first_lost.Given as goal

abbrev pub invariant-loop-ahead : goal.invariant-loop-ahead
invariant-loop-ahead l = record {
  learns : Learns l.fn.runs.component.now l.fn.runs.calls.now l.fn.table l.table;
  step : 0 < l.step;
  within : l.lost ≤ length l.events;
  bounds : AreBounds l.fn.runs.component.now l.fn.runs.calls.now l.fn.table l.events l.fn.kept l.kept l.lost;
}

abbrev pub decreases-loop-ahead : goal.decreases-loop-ahead
decreases-loop-ahead l = l.lost - l.kept

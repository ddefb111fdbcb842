use Rattle.std.proofs.Common.{◌≡◌, ◌-◌, ◌≤◌}
use Rattle.lu_lint.proofs.CountedSteps.{StepsBefore}
use Rattle.lu_lint.proofs.step_count.+steps_left.Given as goal

abbrev pub decreases-steps_left : goal.decreases-steps_left
decreases-steps_left l = l.left

abbrev pub invariant-loop-thread : goal.invariant-loop-thread
invariant-loop-thread l = record {
  machine : l.machine ≡ l.fn.machine;
  few : l.rest ≤ l.left;
  steps : StepsBefore l.bound l.fn.machine l.current l.thread 0 (l.left - l.rest);
}

abbrev pub invariant-loop-pick : goal.invariant-loop-pick
invariant-loop-pick l = record {
  machine : l.machine ≡ l.fn.machine;
  few : l.rest ≤ l.left;
  steps : StepsBefore l.bound l.fn.machine l.current l.thread l.pick (l.left - l.rest);
}

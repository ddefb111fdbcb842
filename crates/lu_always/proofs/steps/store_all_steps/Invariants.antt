use Rattle.lu_always.specs.Exits.{AreReached}
use Rattle.std.proofs.Common.{◌≡◌, ◌≤◌, ◌⊎◌}
use Rattle.lu_always.proofs.Exiting.{Between}
use Rattle.lu_always.proofs.StepsMade.{StepsBefore}
use Rattle.lu_always.proofs.steps.store_all_steps.Given as goal

abbrev pub invariant-loop-thread : goal.invariant-loop-thread
invariant-loop-thread l = record {
  steps : StepsBefore l.fn.given.dead.now l.fn.given.rounds l.fn.given.table.now l.fn.machine l.fn.monitor l.fn.at l.initial.thread l.fn.all l.machine l.all l.thread;
  from : l.initial.thread ≤ l.thread;
  within : (l.thread ≤ l.thread-end) ⊎ (l.thread ≡ l.initial.thread);
  exits : AreReached (Between l.fn.machine l.initial.thread l.thread) l.fn.given.dead.now l.fn.given.rounds l.all l.exits.items l.fn.machine;
}

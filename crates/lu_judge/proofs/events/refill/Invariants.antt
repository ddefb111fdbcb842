use Rattle.std.proofs.Common.{◌≡◌, ◌≤◌, ◌++◌, length, take}
use Rattle.lu_judge.proofs.events.refill.Given as goal

abbrev pub decreases-loop-history : goal.decreases-loop-history
decreases-loop-history l = length l.history

abbrev pub invariant-loop-history : goal.invariant-loop-history
invariant-loop-history l = record {
  some : l.kept ≤ length l.history;
  alike : take l.kept l.history ≡ take l.kept l.events;
}

abbrev pub invariant-loop-event : goal.invariant-loop-event
invariant-loop-event l = l.history ≡ l.initial.history ++ take l.event-index l.event-items

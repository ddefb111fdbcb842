use Rattle.std.proofs.Common.{◌≡◌, take}
use Rattle.lu_judge.specs.Returned.{returned}
use Rattle.lu_judge.proofs.trail.returned.Given as goal

abbrev pub invariant-loop-event : goal.invariant-loop-event
invariant-loop-event l = l.ops.items ≡ returned (take l.event-index l.events)

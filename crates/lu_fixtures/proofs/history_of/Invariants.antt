use Rattle.std.proofs.Common.{◌≡◌, take}
use Rattle.lu_fixtures.proofs.history_of.Given as goal

abbrev pub invariant-loop-event : goal.invariant-loop-event
invariant-loop-event g l = l.history ≡ take l.event-index l.events

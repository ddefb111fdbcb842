use Rattle.std.proofs.Common.{◌≡◌, drop}
use Rattle.lu_run.specs.Foreseeing.{next_return}
use Rattle.lu_run.proofs.judging.next_return.Given as goal

abbrev pub invariant-loop-event : goal.invariant-loop-event
invariant-loop-event l = next_return l.thread l.more ≡ next_return l.thread (drop l.event-index l.more)

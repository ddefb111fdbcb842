use Rattle.std.proofs.Common.{◌≡◌, take}
use Rattle.std.specs.List.{filter}
use Rattle.lu_history.specs.Parts.{is_kept}
use Rattle.lu_history.proofs.history.History.keep_pending.Given as goal

abbrev pub invariant-loop-event : goal.invariant-loop-event
invariant-loop-event l = l.kept ≡ filter (is_kept l.t l.self) (take l.event-index l.self)

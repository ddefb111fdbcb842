use Rattle.std.proofs.Common.{◌≡◌, take, drop}
use Rattle.lu_lint.specs.Runs.{hints_after, history_hints, with_firsts}
use Rattle.lu_lint.proofs.serial_runs.with_history.Given as goal

abbrev pub invariant-loop-position : goal.invariant-loop-position
invariant-loop-position l = with_firsts l.found.items (hints_after (take l.position l.history) (drop l.position l.history)) ≡ with_firsts l.initial.found.items (history_hints l.history)

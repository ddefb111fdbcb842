use Rattle.std.proofs.Common.{◌≡◌, take}
use Rattle.lu_serial.specs.Serial.{entries_of}
use Rattle.lu_lint.proofs.serial_runs.entries_of.Given as goal

abbrev pub invariant-loop-event : goal.invariant-loop-event
invariant-loop-event l = l.entries.items ≡ entries_of (take l.event-index l.history)

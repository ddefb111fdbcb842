use Rattle.std.proofs.Common.{length}
use Rattle.lu_spec.proofs.history_line.+is_serial.Given as goal

-- proposed from what the function passes where it calls itself
abbrev pub decreases-is_serial : goal.decreases-is_serial
decreases-is_serial l = length l.history.now

use Rattle.std.proofs.Common.{length}
use Rattle.lu_source_text.proofs.names.+position_from.Given as goal

abbrev pub decreases-position_from : goal.decreases-position_from
decreases-position_from l = length l.names.now

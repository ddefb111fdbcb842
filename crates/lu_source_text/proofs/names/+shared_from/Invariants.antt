use Rattle.std.proofs.Common.{length}
use Rattle.lu_source_text.proofs.names.+shared_from.Given as goal

abbrev pub decreases-shared_from : goal.decreases-shared_from
decreases-shared_from l = length l.shared.now

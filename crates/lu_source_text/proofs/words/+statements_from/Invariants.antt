use Rattle.std.proofs.Common.{length}
use Rattle.lu_source_text.proofs.words.+statements_from.Given as goal

abbrev pub decreases-statements_from : goal.decreases-statements_from
decreases-statements_from l = length l.words.now

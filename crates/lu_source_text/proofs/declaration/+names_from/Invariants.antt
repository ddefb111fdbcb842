use Rattle.std.proofs.Common.{length}
use Rattle.lu_source_text.proofs.declaration.+names_from.Given as goal

abbrev pub decreases-names_from : goal.decreases-names_from
decreases-names_from l = length l.words.now

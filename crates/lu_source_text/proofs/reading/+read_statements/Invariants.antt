use Rattle.std.proofs.Common.{length}
use Rattle.lu_source_text.proofs.reading.+read_statements.Given as goal

abbrev pub decreases-read_statements : goal.decreases-read_statements
decreases-read_statements l = length l.statements.now

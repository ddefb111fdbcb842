use Rattle.lu_report.proofs.FormLines.{none_told, listed_as_read}
use Rattle.lu_report.proofs.laws.listed_as_read.Goals as goal

pub returns-clause-first : goal.returns-clause-first
returns-clause-first _ = listed_as_read

pub returns-clause-none : goal.returns-clause-none
returns-clause-none _ = none_told

use Rattle.lu_spec.proofs.FaultLines.{none_told, listed_as_read}
use Rattle.lu_spec.proofs.laws.listed_as_read.Goals as goal

pub returns-clause-first : goal.returns-clause-first
returns-clause-first _ = listed_as_read

pub returns-clause-none : goal.returns-clause-none
returns-clause-none _ = none_told

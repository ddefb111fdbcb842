use Rattle.lu_source.proofs.Bounded.{code_sound}
use Rattle.lu_source.proofs.Planned.{difference_tells, expressions_done}
use Rattle.lu_source.proofs.Registers.{coded_sound}
use Rattle.lu_source.proofs.Schedules.{compiles_rightly}
use Rattle.lu_source.proofs.laws.compiler_laws.Goals as goal

pub returns-clause-compiles : goal.returns-clause-compiles
returns-clause-compiles _ = compiles_rightly

pub returns-clause-expressions : goal.returns-clause-expressions
returns-clause-expressions _ = expressions_done

pub returns-clause-tests : goal.returns-clause-tests
returns-clause-tests _ = difference_tells

pub returns-clause-sound : goal.returns-clause-sound
returns-clause-sound _ = code_sound

pub returns-clause-values : goal.returns-clause-values
returns-clause-values _ arrays locks e to free = coded_sound arrays locks e to free

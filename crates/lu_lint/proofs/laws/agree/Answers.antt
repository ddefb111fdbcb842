use Rattle.lu_lint.proofs.Going.{component_agrees, matrix_agrees}
use Rattle.lu_lint.proofs.Moves.{schedule_agrees}
use Rattle.lu_lint.proofs.PartsLeast.{readers_are_least}
use Rattle.lu_lint.proofs.laws.agree.Goals as goal

pub returns-clause-component : goal.returns-clause-component
returns-clause-component c = component_agrees

pub returns-clause-matrix : goal.returns-clause-matrix
returns-clause-matrix c = matrix_agrees

pub returns-clause-schedule : goal.returns-clause-schedule
returns-clause-schedule c = schedule_agrees

pub returns-clause-least : goal.returns-clause-least
returns-clause-least c = readers_are_least

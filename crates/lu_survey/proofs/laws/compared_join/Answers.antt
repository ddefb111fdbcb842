use Rattle.lu_survey.proofs.InComparisons.{compared_join}
use Rattle.lu_survey.proofs.laws.compared_join.Goals as goal

pub returns : goal.returns
returns _ = compared_join

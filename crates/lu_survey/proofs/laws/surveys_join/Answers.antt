use Rattle.lu_survey.proofs.InSurveys.{counts_all, one_survey, surveys_join}
use Rattle.lu_survey.proofs.laws.surveys_join.Goals as goal

pub returns-clause-join : goal.returns-clause-join
returns-clause-join _ = surveys_join

pub returns-clause-all : goal.returns-clause-all
returns-clause-all _ = counts_all

pub returns-clause-one_survey : goal.returns-clause-one_survey
returns-clause-one_survey _ = one_survey

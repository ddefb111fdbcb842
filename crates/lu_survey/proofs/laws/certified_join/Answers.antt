use Rattle.lu_survey.proofs.InCampaigns.{certified_join, one_answer}
use Rattle.lu_survey.proofs.laws.certified_join.Goals as goal

pub returns-clause-join : goal.returns-clause-join
returns-clause-join _ = certified_join

pub returns-clause-one_answer : goal.returns-clause-one_answer
returns-clause-one_answer _ = one_answer

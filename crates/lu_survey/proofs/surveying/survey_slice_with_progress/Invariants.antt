use Rattle.lu_refine.specs.ByThread.{asked_of}
use Rattle.lu_survey.specs.Surveys.{AreShownOf}
use Rattle.lu_survey.proofs.InSurveys.{IsSurveyedTo}
use Rattle.lu_survey.proofs.surveying.survey_slice_with_progress.Given as goal

abbrev pub invariant-loop-number : goal.invariant-loop-number
invariant-loop-number g l = record {
  surveyed : IsSurveyedTo (asked_of l.roles) l.nodes l.start l.number l.survey;
  shown : AreShownOf l.roles.component.now l.survey;
}

use Rattle.std.proofs.Common.{arith, ◌≡◌, ◌+◌, ap, ◌∙◌, refl, subst, sym}
use Rattle.std.specs.Prelude.{min}
use Rattle.lu_refine.specs.ByThread.{asked_of, matrix_count}
use Rattle.lu_survey.specs.Surveys.{AreShownOf}
use Rattle.lu_survey.proofs.InSurveys.{IsSurveyedTo, has_room, none_shown, shown_more, surveyed_all, surveyed_more, surveyed_none}
use Rattle.lu_survey.proofs.surveying.survey_slice_with_progress.Goals as goal

pub certified_at-requires-clause-limits : goal.certified_at-requires-clause-limits
certified_at-requires-clause-limits g c = c.in_ok-count.ensures.within refl

pub certified_at-requires-clause-number : goal.certified_at-requires-clause-number
certified_at-requires-clause-number g c = omega (arith, c.min-end.ensures, c.in_ok-count.ensures.count)

pub loop-number-init : goal.loop-number-init
loop-number-init g c = record {
  surveyed = surveyed_none (asked_of c.args.roles) c.args.nodes c.min-start.result c.none-survey.result c.none-survey.ensures;
  shown = none_shown c.args.roles.component.now c.none-survey.result c.none-survey.ensures;
}

pub with-survey-requires : goal.with-survey-requires
with-survey-requires g c = has_room (asked_of c.args.roles) c.args.nodes c.min-start.result c.loop-number.number c.loop-number.survey (omega arith) c.loop-number.invariant.surveyed

pub loop-number-preserved : goal.loop-number-preserved
loop-number-preserved g c =
    let asked = asked_of c.args.roles in
    let one = c.in_ok-one.one in
    record {
      surveyed = subst (IsSurveyedTo asked c.args.nodes c.min-start.result (c.loop-number.number + 1)) (sym c.with-survey.ensures)
          (surveyed_more asked c.args.nodes c.min-start.result c.loop-number.number c.loop-number.survey one c.in_ok-one.ensures.certified c.loop-number.invariant.surveyed);
      shown = subst (AreShownOf c.args.roles.component.now) (sym c.with-survey.ensures)
          (shown_more c.args.roles.component.now c.loop-number.survey one one.certificate c.in_ok-one.ensures.shown c.loop-number.invariant.shown);
    }

pub returns-clause-answer : goal.returns-clause-answer
returns-clause-answer g c =
    let asked = asked_of c.args.roles in
    let end : c.min-end.result ≡ min c.args.to (matrix_count asked) = c.min-end.ensures ∙ ap (min c.args.to) c.in_ok-count.ensures.count in (
      c.in_ok-count.ensures.within refl,
      surveyed_all asked c.args.nodes c.args.from c.args.to c.min-start.result c.min-end.result c.loop-number.number c.loop-number.survey end c.min-start.ensures (omega arith) c.loop-number.invariant.surveyed,
    )

pub returns-clause-of : goal.returns-clause-of
returns-clause-of g c = c.loop-number.invariant.shown

use Rattle.std.proofs.Common.{subst, ap, ◌∙◌}
use Rattle.lu_test.specs.ScheduleText.{GivesSchedule, schedule_of}
use Rattle.lu_test.proofs.RoundTrip.{is_found, schedule_again}
use Rattle.lu_test.proofs.schedule_text.read_schedule.Goals as goal

pub returns-clause-found : goal.returns-clause-found
returns-clause-found c = is_found c.args.text.now c.schedule_in.result c.schedule_in.ensures

pub returns-clause-only : goal.returns-clause-only
returns-clause-only c = λ ms (fits, e). subst (GivesSchedule c.schedule_in.result) (ap schedule_of e ∙ schedule_again ms fits) c.schedule_in.ensures

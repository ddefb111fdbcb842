use Rattle.std.proofs.Common.{subst, sym}
use Rattle.lu_refine.specs.ByThread.{Asked, CanAsk}
use Rattle.lu_survey.specs.Comparing.{CanCompare}
use Rattle.lu_cli.proofs.campaign_against.compare_lists.Goals as goal

pub compare_part-requires : goal.compare_part-requires
compare_part-requires g c =
    let asked = c.roles_of.ensures.asked in
    subst (λ (a : Asked). CanCompare a c.args.trusted.now) (sym asked) (record {
      asked_is = subst CanAsk asked c.roles_of.ensures.can_ask;
      operations = c.requires.trusted.operations;
      settles = c.requires.trusted.settles;
    })

use Rattle.std.proofs.Common.{subst, sym}
use Rattle.lu_machine.specs.Starts.{AllEnd}
use Rattle.lu_check_tests.proofs.campaigns.campaign_over.Goals as goal

pub campaign-requires-in-len1-up-clause-settles : goal.campaign-requires-in-len1-up-clause-settles
campaign-requires-in-len1-up-clause-settles g c =
    subst (AllEnd c.args.case.now.component) (sym c.setup-setup.ensures.calls) c.requires.settles

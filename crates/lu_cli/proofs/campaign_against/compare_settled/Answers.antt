use Rattle.std.proofs.Common.{rules}
use Rattle.lu_machine.specs.Starts.{Settles}
use Rattle.lu_survey.proofs.InComparisons.{of_too}
use Rattle.lu_cli.proofs.campaign_against.compare_settled.Goals as goal

pub settles-requires : goal.settles-requires
settles-requires g c = of_too c.args.test.component.now c.args.trusted.now c.args.test.matrix.now c.requires c.args.test.can_run.of

pub compare_test-requires : goal.compare_test-requires
compare_test-requires g c =
    let ends : Settles c.args.trusted.now c.args.test.matrix.now = search rules in
    record { operations = c.requires; settles = ends }

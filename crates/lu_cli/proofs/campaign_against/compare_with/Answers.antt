use Rattle.std.proofs.Common.{inl, rules}
use Rattle.lu_component.specs.Component.{Component}
use Rattle.lu_survey.specs.Comparing.{HasSameOperations}
use Rattle.lu_cli.specs.CampaignAgainst.{IsComparedMatrix, ToTrusted}
use Rattle.lu_cli.specs.Reading.{ToSettled}
use Rattle.lu_cli.proofs.Refuted.{answered_more}
use Rattle.lu_cli.proofs.campaign_against.compare_with.Goals as goal

pub returns : goal.returns
returns g c =
    let component = c.args.test.component.now in
    let matrix = c.args.test.matrix.now in
    let trusted = c.in_ok-trusted.trusted in
    let same : HasSameOperations component trusted = search rules in
    answered_more (ToSettled trusted matrix (IsComparedMatrix trusted c.args.options component matrix)) (ToTrusted c.args.trusted.now component matrix (λ (t : Component). IsComparedMatrix t c.args.options component matrix))
    (λ answer is. rw c.in_ok-trusted.ensures.read (inl (same, is))) c.compare_settled.result c.compare_settled.ensures

use Rattle.std.proofs.Common.{◌≡◌, Some, rules}
use Rattle.lu_text.specs.Lines.{texts}
use Rattle.lu_text.specs.Words.{exactly_three}
use Rattle.lu_cli.specs.CampaignAgainst.{IsComparedMatrix, ToTrusted}
use Rattle.lu_cli.proofs.Refuted.{texts_answered}
use Rattle.lu_cli.proofs.campaign_against.answer_campaign_against.Goals as goal

pub returns : goal.returns
returns g c =
    let p = c.in_ok-component in
    let read = c.in_ok-case in
    let parts : exactly_three (texts c.args.parts.now) ≡ Some (p.component.now, p.matrix.now, p.trusted.now) = search rules in
    rw parts
    (texts_answered p.component.now p.matrix.now read.case.component read.case.matrix (λ d m. ToTrusted p.trusted.now d m (λ t. IsComparedMatrix t c.args.options d m))
    read.ensures.read c.compare_with.result c.compare_with.ensures)

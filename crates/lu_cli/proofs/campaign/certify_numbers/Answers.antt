use Rattle.std.proofs.Common.{inl}
use Rattle.lu_cli.proofs.campaign.certify_numbers.Goals as goal

pub returns : goal.returns
returns g c = inl (c.in_ok-found.found, c.in_ok-found.ensures.answer, c.in_ok-answer_certificates.ensures)

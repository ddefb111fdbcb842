use Rattle.lu_refine.specs.ByThread.{asked_of}
use Rattle.lu_survey.specs.declared.survey.CertifiedMatrix.{CertifiedMatrix}
use Rattle.lu_survey.proofs.InCampaigns.{certificate_at}
use Rattle.lu_survey.proofs.InSlices.{at_of, at_runs}
use Rattle.lu_survey.proofs.InSurveys.{certified_there}
use Rattle.lu_survey.proofs.certifying.certified_at.Goals as goal

pub certify-requires-clause-of : goal.certify-requires-clause-of
certify-requires-clause-of c = at_runs (asked_of c.args.roles) c.args.number c.in_ok-matrix.matrix c.requires.asked c.in_ok-matrix.ensures

pub returns-clause-certified : goal.returns-clause-certified
returns-clause-certified c =
    let asked = asked_of c.args.roles in
    let one : CertifiedMatrix = record { matrix = c.in_ok-matrix.matrix; certificate = c.in_ok-certificate.certificate } in
    let certified = certificate_at asked c.args.nodes c.args.number c.in_ok-matrix.matrix c.in_ok-certificate.certificate c.in_ok-matrix.ensures c.in_ok-certificate.ensures.certificate in
    certified_there asked c.args.nodes c.args.number one c.in_ok-matrix.ensures certified

pub returns-clause-shown : goal.returns-clause-shown
returns-clause-shown c =
    (at_of (asked_of c.args.roles) c.args.number c.in_ok-matrix.matrix c.requires.asked c.in_ok-matrix.ensures, c.in_ok-certificate.ensures.of)

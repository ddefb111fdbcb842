use Rattle.std.proofs.Common.{ap}
use Rattle.std.proofs.lemmas.Result.{IfOk-weaker}
use Rattle.lu_component.specs.Component.{Component}
use Rattle.lu_test.specs.Matrix.{Matrix}
use Rattle.lu_machine.specs.Starts.{CanRun}
use Rattle.lu_machine.proofs.Starting.{can_run_too}
use Rattle.lu_certify.specs.declared.certificate.Certificate.{Certificate}
use Rattle.lu_certify.specs.declared.certificate.Certificate.TheVariants.{Linearizable, Livelock, NotLinearizable, Undecided}
use Rattle.lu_certify.specs.declared.limits.Limits.{Limits}
use Rattle.lu_certify.specs.Certificates.{IsCertificate, NamesCutOf}
use Rattle.lu_cli.specs.Failing.{CanRunCut, IsShownAlone, ShowsByView}
use Rattle.lu_cli.proofs.failing.show_alone.Goals as goal

-- a cut has the matrix's setup, so it can be run too
can_run_cut : (c : Component) (matrix : Matrix) (limits : Limits) (certificate : Certificate) → CanRun c matrix → IsCertificate c matrix limits certificate → NamesCutOf c certificate → CanRunCut c certificate
can_run_cut c matrix limits (Linearizable members) runs is of = record {}
can_run_cut c matrix limits (NotLinearizable smaller r) runs is of = can_run_too c matrix smaller runs of (ap (λ (x : Matrix). x.setup) is.is)
can_run_cut c matrix limits (Livelock smaller u) runs is of = can_run_too c matrix smaller runs of (ap (λ (x : Matrix). x.setup) is.1.is)
can_run_cut c matrix limits (Undecided smaller r) runs is of = record {}

pub show_by_view-requires-clause-runs : goal.show_by_view-requires-clause-runs
show_by_view-requires-clause-runs c =
    can_run_cut c.args.test.component.now c.args.test.matrix.now _ c.in_ok-certificate.certificate c.args.test.can_run c.in_ok-certificate.ensures.certificate c.in_ok-certificate.ensures.of

pub returns : goal.returns
returns c =
    let component = c.args.test.component.now in
    let certificate = c.in_ok-certificate.certificate in
    IfOk-weaker c.show_by_view.result (ShowsByView c.args.view c.args.how component certificate) (IsShownAlone c.args.view c.args.how component c.args.test.matrix.now)
    (λ answer is. (certificate, c.in_ok-certificate.ensures.certificate, is)) c.show_by_view.ensures

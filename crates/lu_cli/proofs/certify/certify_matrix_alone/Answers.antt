use Rattle.std.proofs.Common.{ℕ, inl, inr, subst}
use Rattle.lu_certify.specs.declared.limits.Limits.{Limits}
use Rattle.lu_grain.specs.Longer.{IsMadeWith}
use Rattle.lu_cli.specs.Certify.{certified_local}
use Rattle.lu_cli.proofs.certify.certify_matrix_alone.Goals as goal

pub returns : goal.returns
returns c =
    let component = c.args.test.component.now in
    let certificate = c.in_ok-certificate.certificate in
    let at = subst (λ (n : ℕ). IsMadeWith n component c.args.test.matrix.now c.of-limits.result certificate) c.certified_local-local.ensures.local c.in_ok-certificate.ensures.certificate in
    inr (inl (certificate, subst (λ (l : Limits). IsMadeWith (certified_local c.args.asked component) component c.args.test.matrix.now l certificate) c.of-limits.ensures.limits at, c.in_ok-show_certificate.ensures))

use Rattle.std.proofs.Common.{ℕ, inl, inr, subst}
use Rattle.std.proofs.lemmas.Result.{err_from_is_err_and}
use Rattle.lu_grain.specs.Longer.{IsMadeWithin}
use Rattle.lu_cli.proofs.Certified.{certified_refused}
use Rattle.lu_cli.proofs.certify.certify_matrix.Goals as goal

pub returns-in_err-certificate : goal.returns-in_err-certificate
returns-in_err-certificate g c =
    let p = err_from_is_err_and c.from_residual-in_err-certificate.result c.from_residual-in_err-certificate.ensures.1 in
    rw (p.1, p.2) (certified_refused c.args.test.component.now c.args.test.matrix.now c.args.asked c.in_err-certificate.field-0.0 c.in_err-certificate.ensures.alone)

pub returns : goal.returns
returns g c =
    let made = subst (λ (n : ℕ). IsMadeWithin n c.args.test.component.now c.args.test.matrix.now c.args.asked.options c.args.asked.nodes c.in_ok-certificate.certificate) c.certified_local-local.ensures.local c.in_ok-certificate.ensures.certificate in
    inr (inl (c.in_ok-certificate.certificate, made, c.in_ok-show_certificate.ensures))

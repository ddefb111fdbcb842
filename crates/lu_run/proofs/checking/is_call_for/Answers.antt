use Rattle.std.proofs.Common.{◌≡◌, Option, Some, slice_get, sym, ◌∙◌, ap, subst, length}
use Rattle.std.specs.Prelude.{IsSomeAnd}
use Rattle.std.proofs.lemmas.Option.{slice_get-get_or}
use Rattle.lu_component.specs.declared.component.Op.{Op}
use Rattle.lu_run.proofs.checking.is_call_for.Goals as goal

pub returns-in-Some : goal.returns-in-Some
returns-in-Some c =
    let l = c.in-Some.ensures.lookup in
    let first = slice_get-get_or c.operations.result.now c.from.result c.in-Some.op.now l.3.0 ∙ ap Some (sym l.1) in
    let there : slice_get c.args.component.now.operations c.args.call.now.op ≡ Some c.in-Some.op.now = ap (λ xs. slice_get xs c.args.call.now.op) (sym c.operations.ensures.operations) ∙ (ap (slice_get c.operations.result.now) (sym c.from.ensures) ∙ first) in (
      (λ yes. (let both = c.fits.ensures.0 yes in (subst (λ (o : Option Op). IsSomeAnd o (λ op. length c.args.call.now.args ≡ op.args)) (sym there) both.0, both.1))),
      (λ is. c.fits.ensures.1 (subst (λ (o : Option Op). IsSomeAnd o (λ op. length c.args.call.now.args ≡ op.args)) there is.0, is.1)),
    )

use Rattle.std.proofs.Common.{◌≡◌, subst}
use Rattle.lu_report.specs.declared.report.Finding.TheVariants.{Fail}
use Rattle.lu_refute.specs.Walks.{IsOfFailure}
use Rattle.lu_refute.proofs.refuting.schedule_of_failure.Goals as goal

pub returns-else-branch : goal.returns-else-branch
returns-else-branch c =
    λ s u is of.
    let found : c.args.finding.now ≡ Fail c.in-Fail.schedule c.in-Fail.why = c.in-Fail.is in
    let refutes = subst (λ f. IsOfFailure s c.args.set.now f u) found of in
    let yes_it_does = (c.in_ok-refutes-in-Fail.ensures s is).1 refutes.1 in
    absurd (let no_it_does_not = c.if-branch.false in cc)

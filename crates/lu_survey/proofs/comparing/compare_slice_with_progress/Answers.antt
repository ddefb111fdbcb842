use Rattle.std.proofs.Common.{arith, ◌≡◌, Option, ap, ◌∙◌, refl, subst}
use Rattle.std.specs.Prelude.{MatchOption, min}
use Rattle.lu_refine.specs.ByThread.{asked_of, matrix_count}
use Rattle.lu_survey.specs.declared.comparison.Difference.{Difference}
use Rattle.lu_survey.specs.Comparing.{AgreesAt, DiffersAt}
use Rattle.lu_survey.proofs.InComparisons.{at_runs_too, found_at}
use Rattle.lu_survey.proofs.InSlices.{at_of, at_runs, other_here, so_all, so_more}
use Rattle.lu_survey.proofs.comparing.compare_slice_with_progress.Goals as goal

pub matrix_at-requires-clause-asked : goal.matrix_at-requires-clause-asked
matrix_at-requires-clause-asked g c = c.requires.asked_is

pub matrix_at-requires-clause-limits : goal.matrix_at-requires-clause-limits
matrix_at-requires-clause-limits g c = c.in_ok-count.ensures.within refl

pub matrix_at-requires-clause-number : goal.matrix_at-requires-clause-number
matrix_at-requires-clause-number g c = omega (arith, c.min-end.ensures, c.in_ok-count.ensures.count)

pub differ-requires-clause-of : goal.differ-requires-clause-of
differ-requires-clause-of g c = at_runs (asked_of c.args.roles) c.loop-number.number c.in_ok-matrix.matrix c.requires.asked_is c.in_ok-matrix.ensures

pub differ-requires-clause-trusted : goal.differ-requires-clause-trusted
differ-requires-clause-trusted g c = at_runs_too (asked_of c.args.roles) c.args.trusted.now c.loop-number.number c.in_ok-matrix.matrix c.requires c.in_ok-matrix.ensures

pub differ-requires-clause-bound : goal.differ-requires-clause-bound
differ-requires-clause-bound g c = c.requires.asked_is.few_moves

pub differ-requires-clause-serial : goal.differ-requires-clause-serial
differ-requires-clause-serial g c = c.requires.asked_is.serial_bound

pub returns-in-Some-clause-answer : goal.returns-in-Some-clause-answer
returns-in-Some-clause-answer g c =
    let asked = asked_of c.args.roles in
    let end : c.min-end.result ≡ min c.args.to (matrix_count asked) = c.min-end.ensures ∙ ap (min c.args.to) c.in_ok-count.ensures.count in
    let found = found_at c.args.trusted.now asked c.loop-number.number c.in_ok-matrix.matrix c.in_ok-differ.field-0 c.in_ok-matrix.ensures c.in_ok-differ.ensures in
    let other : DiffersAt c.args.trusted.now asked c.in-Some.difference c.in_ok-matrix.ensures.choice =
    subst (λ (o : Option Difference). MatchOption o (AgreesAt c.args.trusted.now asked c.in_ok-matrix.ensures.choice) (λ (d : Difference). DiffersAt c.args.trusted.now asked d c.in_ok-matrix.ensures.choice)) c.in-Some.is found in (
      c.in_ok-count.ensures.within refl,
      other_here asked (AgreesAt c.args.trusted.now asked) (DiffersAt c.args.trusted.now asked c.in-Some.difference) c.args.from c.args.to c.min-start.result c.min-end.result c.loop-number.number c.in_ok-matrix.matrix end c.min-start.ensures (omega arith) (omega arith) c.in_ok-matrix.ensures c.loop-number.invariant other,
    )

pub returns-in-Some-clause-of : goal.returns-in-Some-clause-of
returns-in-Some-clause-of g c = at_of (asked_of c.args.roles) c.loop-number.number c.in_ok-matrix.matrix c.requires.asked_is c.in_ok-matrix.ensures

pub loop-number-preserved : goal.loop-number-preserved
loop-number-preserved g c =
    let asked = asked_of c.args.roles in
    let found = found_at c.args.trusted.now asked c.loop-number.number c.in_ok-matrix.matrix c.in_ok-differ.field-0 c.in_ok-matrix.ensures c.in_ok-differ.ensures in
    let agrees : AgreesAt c.args.trusted.now asked c.in_ok-matrix.ensures.choice =
    subst (λ (o : Option Difference). MatchOption o (AgreesAt c.args.trusted.now asked c.in_ok-matrix.ensures.choice) (λ (d : Difference). DiffersAt c.args.trusted.now asked d c.in_ok-matrix.ensures.choice)) c.in-None.is found in
    so_more asked (AgreesAt c.args.trusted.now asked) c.min-start.result c.loop-number.number c.in_ok-matrix.matrix c.in_ok-matrix.ensures c.loop-number.invariant agrees

pub returns-clause-answer : goal.returns-clause-answer
returns-clause-answer g c =
    let asked = asked_of c.args.roles in
    let end : c.min-end.result ≡ min c.args.to (matrix_count asked) = c.min-end.ensures ∙ ap (min c.args.to) c.in_ok-count.ensures.count in
    (c.in_ok-count.ensures.within refl, so_all asked (AgreesAt c.args.trusted.now asked) c.args.from c.args.to c.min-start.result c.min-end.result c.loop-number.number end c.min-start.ensures (omega arith) c.loop-number.invariant)

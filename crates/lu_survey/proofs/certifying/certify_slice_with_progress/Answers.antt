use Rattle.std.proofs.Common.{rules, arith, ◌≡◌, ap, ◌∙◌, refl}
use Rattle.std.specs.Prelude.{min}
use Rattle.lu_refine.specs.ByThread.{asked_of, matrix_count}
use Rattle.lu_survey.specs.Certified.{IsCertified, IsCertifiedOther, SaysLinearizable}
use Rattle.lu_survey.proofs.InSlices.{other_here, so_all, so_more}
use Rattle.lu_survey.proofs.InSurveys.{matrix_there}
use Rattle.lu_survey.proofs.certifying.certify_slice_with_progress.Goals as goal

pub certified_at-requires-clause-limits : goal.certified_at-requires-clause-limits
certified_at-requires-clause-limits g c = c.in_ok-count.ensures.within refl

pub certified_at-requires-clause-number : goal.certified_at-requires-clause-number
certified_at-requires-clause-number g c = omega (arith, c.min-end.ensures, c.in_ok-count.ensures.count)

pub returns-then-not-says_linearizable-clause-answer : goal.returns-then-not-says_linearizable-clause-answer
returns-then-not-says_linearizable-clause-answer g c =
    let asked = asked_of c.args.roles in
    let one = c.in_ok-one.one in
    let end : c.min-end.result ≡ min c.args.to (matrix_count asked) = c.min-end.ensures ∙ ap (min c.args.to) c.in_ok-count.ensures.count in
    let other : SaysLinearizable one.certificate → ⊥ = search rules in (
      c.in_ok-count.ensures.within refl,
      other_here asked (IsCertified asked c.args.nodes) (IsCertifiedOther asked c.args.nodes one.certificate) c.args.from c.args.to c.min-start.result c.min-end.result c.loop-number.number one.matrix end c.min-start.ensures (omega arith) (omega arith)
          (matrix_there asked c.args.nodes c.loop-number.number one c.in_ok-one.ensures.certified) c.loop-number.invariant (c.in_ok-one.ensures.certified.certified, other),
    )

pub returns-then-not-says_linearizable-clause-of : goal.returns-then-not-says_linearizable-clause-of
returns-then-not-says_linearizable-clause-of g c = c.in_ok-one.ensures.shown

pub loop-number-preserved : goal.loop-number-preserved
loop-number-preserved g c =
    let asked = asked_of c.args.roles in
    let one = c.in_ok-one.one in
    let says : SaysLinearizable one.certificate = search rules in
    so_more asked (IsCertified asked c.args.nodes) c.min-start.result c.loop-number.number one.matrix
    (matrix_there asked c.args.nodes c.loop-number.number one c.in_ok-one.ensures.certified) c.loop-number.invariant (one.certificate, c.in_ok-one.ensures.certified.certified, says)

pub returns-clause-answer : goal.returns-clause-answer
returns-clause-answer g c =
    let asked = asked_of c.args.roles in
    let end : c.min-end.result ≡ min c.args.to (matrix_count asked) = c.min-end.ensures ∙ ap (min c.args.to) c.in_ok-count.ensures.count in
    (c.in_ok-count.ensures.within refl, so_all asked (IsCertified asked c.args.nodes) c.args.from c.args.to c.min-start.result c.min-end.result c.loop-number.number end c.min-start.ensures (omega arith) c.loop-number.invariant)

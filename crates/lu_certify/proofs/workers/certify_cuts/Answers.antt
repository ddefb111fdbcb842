use Rattle.std.proofs.Common.{arith, ◌≡◌, ◌≤◌, sym, subst}
use Rattle.lu_certify.specs.declared.certificate.Certificate.TheVariants.{NotLinearizable}
use Rattle.lu_certify.specs.declared.limits.Limits.{Limits}
use Rattle.lu_certify.specs.declared.so_far.SoFar.TheVariants.{Clear}
use Rattle.lu_certify.specs.Certificates.{IsFailingReport, limits_of}
use Rattle.lu_certify.specs.Looking.{IsAnswer, IsLooked}
use Rattle.lu_certify.specs.Cuts.{IsNext, IsWithoutOffence, cut_count}
use Rattle.lu_certify.proofs.Livelocks.{next_cut}
use Rattle.lu_certify.proofs.One.{decided}
use Rattle.lu_certify.proofs.Rounds.{concluded, cut_runs, first_here, known_next, names_cut, none_known, none_more, none_offends, none_yet}
use Rattle.lu_certify.proofs.workers.certify_cuts.Goals as goal

pub loop-number-init : goal.loop-number-init
loop-number-init g c = record {
  none = none_yet c.args.test.component.now c.args.test.matrix.now (limits_of c.args.options c.args.nodes);
  known = none_known c.args.test.component.now c.args.test.matrix.now (limits_of c.args.options c.args.nodes);
}

pub cut_at-requires : goal.cut_at-requires
cut_at-requires g c = omega (arith, c.count_cuts-cuts.ensures)

pub invariant_of-cut : goal.invariant_of-cut
invariant_of-cut g c = record { can_run = cut_runs c.args.test.component.now c.args.test.matrix.now c.loop-number.number c.in_ok-matrix.matrix c.args.test.can_run c.in_ok-matrix.ensures }

pub returns-in-Failing-clause-certificate : goal.returns-in-Failing-clause-certificate
returns-in-Failing-clause-certificate g c =
    let fails : IsFailingReport c.args.test.component.now (limits_of c.args.options c.args.nodes) c.in_ok-matrix.matrix c.in-Failing.report = subst (IsLooked c.asked-asked.result c.args.test.component.now (limits_of c.args.options c.args.nodes) c.in_ok-matrix.matrix) c.in-Failing.is c.in_ok-report.ensures in
    first_here c.args.test.component.now c.args.test.matrix.now (limits_of c.args.options c.args.nodes) c.args.test.can_run.settles c.loop-number.number c.in_ok-matrix.matrix c.in_ok-matrix.ensures c.in-Failing.report c.loop-number.invariant.none fails

pub returns-in-Failing-clause-decides : goal.returns-in-Failing-clause-decides
returns-in-Failing-clause-decides g c =
    let fails : IsFailingReport c.args.test.component.now (limits_of c.args.options c.args.nodes) c.in_ok-matrix.matrix c.in-Failing.report = subst (IsLooked c.asked-asked.result c.args.test.component.now (limits_of c.args.options c.args.nodes) c.in_ok-matrix.matrix) c.in-Failing.is c.in_ok-report.ensures in
    decided c.args.test.component.now c.args.test.matrix.now (limits_of c.args.options c.args.nodes) c.args.test.can_run.settles (NotLinearizable c.in_ok-matrix.matrix c.in-Failing.report)
    (first_here c.args.test.component.now c.args.test.matrix.now (limits_of c.args.options c.args.nodes) c.args.test.can_run.settles c.loop-number.number c.in_ok-matrix.matrix c.in_ok-matrix.ensures c.in-Failing.report c.loop-number.invariant.none fails)

pub returns-in-Failing-clause-of : goal.returns-in-Failing-clause-of
returns-in-Failing-clause-of g c = (cut_runs c.args.test.component.now c.args.test.matrix.now c.loop-number.number c.in_ok-matrix.matrix c.args.test.can_run c.in_ok-matrix.ensures).of

pub loop-number-preserved : goal.loop-number-preserved
loop-number-preserved g c =
    let is = subst (IsLooked c.asked-asked.result c.args.test.component.now (limits_of c.args.options c.args.nodes) c.in_ok-matrix.matrix) c.in-Stands.is c.in_ok-report.ensures in
    let next : IsNext c.args.test.component.now (limits_of c.args.options c.args.nodes) c.loop-number.so_far c.in_ok-matrix.matrix c.after-so_far.result =
    subst (IsNext c.args.test.component.now (limits_of c.args.options c.args.nodes) c.loop-number.so_far c.in_ok-matrix.matrix) (sym c.after-so_far.ensures)
    (next_cut c.args.test.component.now (limits_of c.args.options c.args.nodes) c.in_ok-matrix.matrix c.loop-number.so_far c.in-Stands.livelock c.in-Stands.unclear
    (subst (λ x. IsAnswer x c.args.test.component.now (limits_of c.args.options c.args.nodes) c.in_ok-matrix.matrix c.in-Stands.livelock c.in-Stands.unclear) c.asked-asked.ensures is.1)) in
    record {
      none = none_more c.args.test.component.now c.args.test.matrix.now (limits_of c.args.options c.args.nodes) c.args.test.can_run.settles c.loop-number.number c.in_ok-matrix.matrix c.in_ok-matrix.ensures c.loop-number.invariant.none is.0;
      known = known_next c.args.test.component.now c.args.test.matrix.now (limits_of c.args.options c.args.nodes) c.args.test.can_run.settles c.loop-number.number c.in_ok-matrix.matrix c.in_ok-matrix.ensures c.loop-number.so_far c.after-so_far.result next c.loop-number.invariant.known;
    }

pub conclude-requires : goal.conclude-requires
conclude-requires g c =
    let all : cut_count c.args.test.matrix.now ≤ c.loop-number.number = omega (arith, c.count_cuts-cuts.ensures, c.loop-number-test.false) in
    subst (λ (x : Limits). c.loop-number.so_far ≡ Clear → IsWithoutOffence c.args.test.component.now c.args.test.matrix.now x.serial) (sym c.of.ensures.limits)
    (none_offends c.args.test.component.now c.args.test.matrix.now (limits_of c.args.options c.args.nodes) c.loop-number.number c.loop-number.so_far all c.loop-number.invariant.known)

pub returns-clause-certificate : goal.returns-clause-certificate
returns-clause-certificate g c =
    let all : cut_count c.args.test.matrix.now ≤ c.loop-number.number = omega (arith, c.count_cuts-cuts.ensures, c.loop-number-test.false) in
    concluded c.args.test.component.now c.args.test.matrix.now (limits_of c.args.options c.args.nodes) c.loop-number.number c.loop-number.so_far all c.loop-number.invariant.none c.loop-number.invariant.known c.in_ok-conclude.field-0 c.in_ok-conclude.ensures

pub returns-clause-decides : goal.returns-clause-decides
returns-clause-decides g c =
    let all : cut_count c.args.test.matrix.now ≤ c.loop-number.number = omega (arith, c.count_cuts-cuts.ensures, c.loop-number-test.false) in
    decided c.args.test.component.now c.args.test.matrix.now (limits_of c.args.options c.args.nodes) c.args.test.can_run.settles c.in_ok-conclude.field-0
    (concluded c.args.test.component.now c.args.test.matrix.now (limits_of c.args.options c.args.nodes) c.loop-number.number c.loop-number.so_far all c.loop-number.invariant.none c.loop-number.invariant.known c.in_ok-conclude.field-0 c.in_ok-conclude.ensures)

pub returns-clause-of : goal.returns-clause-of
returns-clause-of g c =
    let all : cut_count c.args.test.matrix.now ≤ c.loop-number.number = omega (arith, c.count_cuts-cuts.ensures, c.loop-number-test.false) in
    names_cut c.args.test.component.now c.args.test.matrix.now (limits_of c.args.options c.args.nodes) c.in_ok-conclude.field-0 c.args.test.can_run.of
    (concluded c.args.test.component.now c.args.test.matrix.now (limits_of c.args.options c.args.nodes) c.loop-number.number c.loop-number.so_far all c.loop-number.invariant.none c.loop-number.invariant.known c.in_ok-conclude.field-0 c.in_ok-conclude.ensures)

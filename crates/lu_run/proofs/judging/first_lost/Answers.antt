use Rattle.std.proofs.Common.{arith, ◌≡◌, ◌+◌, ◌<◌, sym, subst, take}
use Rattle.std.proofs.lemmas.Result.{err_from_is_err_and}
use Rattle.lu_run.specs.Judging.{HasLinearization}
use Rattle.lu_run.proofs.Halving.{AreBounds, bounds_above, bounds_below}
use Rattle.lu_run.proofs.Known.{has_later}
use Rattle.lu_run.proofs.Learning.{fault_earlier, learns_on}
use Rattle.lu_run.proofs.judging.first_lost.Goals as goal
use Rattle.lu_run.proofs.judging.first_lost.Goals.{in-None, in-Some}

pub follow_all-requires-clause-start : goal.follow_all-requires-clause-start
follow_all-requires-clause-start c = has_later c.args.table.now c.loop-ahead.table c.loop-ahead.invariant.learns.grows 0 c.requires.start

pub returns-in_err-all-clause-offends : goal.returns-in_err-all-clause-offends
returns-in_err-all-clause-offends c =
    let p = err_from_is_err_and c.from_residual.result c.from_residual.ensures.1 in
    rw (p.1, p.2) (fault_earlier c.args.runs.component.now c.args.runs.calls.now c.args.runs.bound c.args.table.now c.loop-ahead.table c.in_err-all.field-0.0 c.loop-ahead.invariant.learns c.in_err-all.ensures.offends)

pub loop-ahead-preserved : goal.loop-ahead-preserved
loop-ahead-preserved c =
    let component = c.args.runs.component.now in
    let calls = c.args.runs.calls.now in
    let table = c.args.table.now in
    let part = c.args.events.now in
    let first = c.args.kept in
    let kept = c.loop-ahead.kept in
    let lost = c.loop-ahead.lost in
    let ahead = c.min-ahead.result in
    let inv = c.loop-ahead.invariant in
    let learns = learns_on component calls table c.loop-ahead.table c.follow_all.new.table inv.learns c.in_ok-all.ensures.learns in
    let some : 0 < ahead = omega (arith, c.min-ahead.ensures, c.saturating_sub.ensures, c.loop-ahead-test.true, inv.step) in
    let less : kept + ahead < lost = omega (arith, c.min-ahead.ensures, c.saturating_sub.ensures, c.loop-ahead-test.true, inv.step) in
    elim c.match-all.branch [
      | in-None w ↦ record {
        learns = learns;
        step = (let is = w.step-is in omega (arith, is, some));
        within = (let is = w.lost-is in let le = inv.within in omega (arith, is, le));
        bounds = subst (λ x. AreBounds component calls table part first x c.match-all.lost) (sym w.kept-is) (subst (AreBounds component calls table part first (kept + ahead)) (sym w.lost-is)
            (bounds_above component calls table c.loop-ahead.table inv.learns.grows c.requires.start part first kept lost (kept + ahead) c.in_ok-all.all.lost inv.bounds c.in_ok-all.ensures.tells w.in-None.is less));
      }
      | in-Some w ↦ record {
        learns = learns;
        step = (let is = w.step-is in omega (arith, is, some));
        within = (let is = w.lost-is in let le = inv.within in omega (arith, is, le, less));
        bounds = subst (λ x. AreBounds component calls table part first x c.match-all.lost) (sym w.kept-is) (subst (AreBounds component calls table part first kept) (sym w.lost-is)
            (bounds_below component calls table c.loop-ahead.table inv.learns.grows c.requires.start part first kept lost (kept + ahead) c.in_ok-all.all.lost inv.bounds c.in_ok-all.ensures.tells w.in-Some.field-0 w.in-Some.is (omega (arith, some))));
      }
    ]

pub returns-clause-first : goal.returns-clause-first
returns-clause-first c = λ setup all rest s start starts run cut given.
    let kept = c.loop-ahead.kept in
    let lost = c.loop-ahead.lost in
    let inv = c.loop-ahead.invariant in
    let was = inv.bounds setup all rest s start starts run cut given in
    let less = was.0 in
    let within = inv.within in
    let next : lost ≡ kept + 1 = omega (arith, less, c.saturating_sub.ensures, c.loop-ahead-test.false) in
    record {
      within = omega (arith, less, within);
      before = was.1;
      after = subst (λ x. HasLinearization s (take x c.args.events.now) → ⊥) next was.2;
    }

use Rattle.std.proofs.Common.{rules, arith, ◌<◌, ◌≤◌, length, sym, subst, ap}
use Rattle.lu_test.specs.Matrix.{Matrix, calls_of}
use Rattle.lu_machine.specs.Starts.{CanRun}
use Rattle.lu_machine.proofs.Starting.{settles_too}
use Rattle.lu_test.proofs.FewerCalls.{is_thread}
use Rattle.lu_refine.specs.Removals.{IsFailure, IsFailing, IsLeastRemoval}
use Rattle.lu_refine.proofs.Chained.{runs_without, none_before, none_more, none_of_thread, not_failing}
use Rattle.lu_refine.proofs.shrinking.take_least.Goals as goal

pub loop-t-init : goal.loop-t-init
loop-t-init c = λ t k before. absurd (omega arith)

pub loop-k-init : goal.loop-k-init
loop-k-init c = none_before c.args.matrix.now c.loop-t.t (IsFailing c.args.component.now c.args.bound c.args.serial) c.loop-t.invariant

pub check_in_arena-requires-clause-of : goal.check_in_arena-requires-clause-of
check_in_arena-requires-clause-of c =
    let there : c.loop-k.k < length (calls_of c.args.matrix.now c.loop-t.t) = omega arith in
    subst (CanRun c.args.component.now) (sym c.in_ok-smaller.ensures) (runs_without c.args.component.now c.args.matrix.now c.loop-t.t c.loop-k.k there c.requires.of)

pub returns-then-is_failure : goal.returns-then-is_failure
returns-then-is_failure c =
    let there : c.loop-k.k < length (calls_of c.args.matrix.now c.loop-t.t) = omega arith in
    let failure : IsFailure c.in_ok-report.report.finding = search rules in
    let removal : IsLeastRemoval (IsFailing c.args.component.now c.args.bound c.args.serial) c.args.matrix.now c.in_ok-smaller.smaller = record {
      thread = c.loop-t.t;
      call = c.loop-k.k;
      there = there;
      removed = c.in_ok-smaller.ensures;
      fails = (c.in_ok-report.report, c.in_ok-report.ensures, failure);
      least = c.loop-k.invariant;
    } in
    record { round = (removal, c.in_ok-report.ensures) }

pub loop-k-preserved : goal.loop-k-preserved
loop-k-preserved c =
    let fails = IsFailing c.args.component.now c.args.bound c.args.serial in
    let passes : IsFailure c.in_ok-report.report.finding → ⊥ = search rules in
    let settles = settles_too c.args.component.now c.args.matrix.now c.in_ok-smaller.smaller c.requires.of.settles (ap (λ (m : Matrix). m.setup) c.in_ok-smaller.ensures) in
    let here = not_failing c.args.component.now c.in_ok-smaller.smaller c.args.bound c.args.serial c.in_ok-report.report settles c.in_ok-report.ensures passes in
    none_more c.args.matrix.now c.loop-t.t c.loop-k.k fails c.loop-k.invariant (λ failing. here (subst fails (sym c.in_ok-smaller.ensures) failing))

pub loop-t-preserved : goal.loop-t-preserved
loop-t-preserved c =
    let all : length (calls_of c.args.matrix.now c.loop-t.t) ≤ c.loop-k.k = omega arith in
    none_of_thread c.args.matrix.now c.loop-t.t c.loop-k.k (IsFailing c.args.component.now c.args.bound c.args.serial) all c.loop-k.invariant

pub returns : goal.returns
returns c = record {
  round = λ t k there failing.
      let within = is_thread c.args.matrix.now t k there in
      c.loop-t.invariant t k (omega arith) there failing;
}

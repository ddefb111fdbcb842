use Rattle.std.proofs.Common.{rules, sym, subst}
use Rattle.lu_test.specs.Matrix.{Matrix}
use Rattle.lu_machine.specs.Starts.{CanRun}
use Rattle.lu_replay.specs.Reports.{IsReport}
use Rattle.lu_refine.specs.Removals.{IsFailure, IsFailing, ShrinksTo}
use Rattle.lu_refine.proofs.Chained.{shrinks_more, shrinks_here, removal_of, removal_fewer}
use Rattle.lu_refine.proofs.shrinking.shrink.Goals as goal

pub loop-shrunk-init : goal.loop-shrunk-init
loop-shrunk-init c =
    let failure : IsFailure c.in_ok-report.report.finding = search rules in
    let same = sym c.in_ok-copy_matrix.ensures in
    let report = subst (λ (m : Matrix). IsReport c.args.component.now m c.args.bound c.args.serial c.in_ok-report.report) same c.in_ok-report.ensures in
    record {
      of = subst (CanRun c.args.component.now) same c.requires.of;
      report = report;
      fails = (c.in_ok-report.report, report, failure);
      chain = λ last. subst (λ (m : Matrix). ShrinksTo (IsFailing c.args.component.now c.args.bound c.args.serial) m last) c.in_ok-copy_matrix.ensures;
    }

pub take_least-requires-clause-of : goal.take_least-requires-clause-of
take_least-requires-clause-of c = c.loop-shrunk.invariant.of

pub loop-shrunk-smaller : goal.loop-shrunk-smaller
loop-shrunk-smaller c =
    let round = rw c.in-Some.is at c.in_ok-smaller.ensures.round in
    removal_fewer (IsFailing c.args.component.now c.args.bound c.args.serial) c.loop-shrunk.shrunk.0 c.in-Some.smaller.0 round.0

pub loop-shrunk-preserved : goal.loop-shrunk-preserved
loop-shrunk-preserved c =
    let fails = IsFailing c.args.component.now c.args.bound c.args.serial in
    let round = rw c.in-Some.is at c.in_ok-smaller.ensures.round in
    record {
      of = removal_of c.args.component.now fails c.loop-shrunk.shrunk.0 c.in-Some.smaller.0 round.0 c.loop-shrunk.invariant.of;
      report = round.1;
      fails = round.0.fails;
      chain = λ last rest. c.loop-shrunk.invariant.chain last (shrinks_more fails c.loop-shrunk.shrunk.0 c.in-Some.smaller.0 last c.loop-shrunk.invariant.fails round.0 rest);
    }

pub returns-clause-shrunk : goal.returns-clause-shrunk
returns-clause-shrunk c =
    let fails = IsFailing c.args.component.now c.args.bound c.args.serial in
    let round = rw c.in_default.is at c.in_ok-smaller.ensures.round in
    let chain = c.loop-shrunk.invariant.chain c.loop-shrunk.shrunk.0 (shrinks_here fails c.loop-shrunk.shrunk.0 c.loop-shrunk.invariant.fails round) in
    (chain, c.loop-shrunk.invariant.report)

pub returns-clause-of : goal.returns-clause-of
returns-clause-of c = c.loop-shrunk.invariant.of.of

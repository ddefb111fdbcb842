use Rattle.std.proofs.Common.{arith, ◌≡◌, List, sym, subst, add-one}
use Rattle.std.proofs.lemmas.Result.{err_from_is_err_and}
use Rattle.lu_linearization.specs.declared.configuration.Configuration.{Configuration as Kept}
use Rattle.lu_linearization.specs.Monitors.{AreClosed, by_thread}
use Rattle.lu_run.specs.declared.table.Table.{Table}
use Rattle.lu_run.specs.Following.{AllKnown, HasStates}
use Rattle.lu_run.specs.Foreseeing.{NextAllowed}
use Rattle.lu_run.proofs.Advanced.{all_answered}
use Rattle.lu_run.proofs.Known.{states_closed}
use Rattle.lu_run.proofs.Learning.{fault_earlier, learns_none, learns_on}
use Rattle.lu_run.proofs.Rounds.{KnownWithin, known_first, known_last, known_next}
use Rattle.lu_run.proofs.following.follow.Goals as goal

pub loop-round-init : goal.loop-round-init
loop-round-init c = record {
  learns = learns_none c.args.runs.component.now c.args.runs.calls.now c.args.table.now c.requires.table;
  known = known_first c.args.runs.calls.now c.args.follower.now.pending c.args.follower.now.returns c.requires.seated c.args.thread c.args.follower.now.monitor c.args.table.now;
}

pub learn_all-requires-clause-states : goal.learn_all-requires-clause-states
learn_all-requires-clause-states c =
    let inv = c.loop-round.invariant in
    subst (λ (x : List Kept). HasStates c.loop-round.table x) (sym c.configurations.ensures)
    (states_closed c.args.runs.component.now c.args.runs.calls.now c.args.table.now c.loop-round.table (by_thread c.args.follower.now.pending) c.args.follower.now.returns c.args.thread c.args.follower.now.monitor c.in_ok-next.next c.requires.states inv.learns.grows inv.learns.right c.in_ok-next.ensures)

pub returns-in_err-learn_all-clause-offends : goal.returns-in_err-learn_all-clause-offends
returns-in_err-learn_all-clause-offends c =
    let p = err_from_is_err_and c.from_residual-in_err-learn_all.result c.from_residual-in_err-learn_all.ensures.1 in
    rw (p.1, p.2) (fault_earlier c.args.runs.component.now c.args.runs.calls.now c.args.runs.bound c.args.table.now c.loop-round.table c.in_err-learn_all.field-0.0 c.loop-round.invariant.learns c.in_err-learn_all.ensures.offends)

pub returns-then-not-branch-clause-closed : goal.returns-then-not-branch-clause-closed
returns-then-not-branch-clause-closed c =
    let same : c.learn_all.new.table ≡ c.loop-round.table = c.in_ok-learn_all.ensures.same c.if-not-branch.true in
    subst (λ (x : Table). AreClosed (NextAllowed x c.args.follower.now.returns) (by_thread c.args.follower.now.pending) c.args.thread c.args.follower.now.monitor c.in_ok-next.next) (sym same) c.in_ok-next.ensures

pub returns-then-not-branch-clause-known : goal.returns-then-not-branch-clause-known
returns-then-not-branch-clause-known c =
    all_answered c.args.runs.calls.now c.learn_all.new.table c.args.follower.now.pending c.in_ok-next.next c.requires.seated
    (subst (λ (x : List Kept). AllKnown c.learn_all.new.table c.args.follower.now.pending x) c.configurations.ensures c.in_ok-learn_all.ensures.known)

pub loop-round-preserved : goal.loop-round-preserved
loop-round-preserved c =
    let inv = c.loop-round.invariant in
    let new = c.learn_all.new.table in
    let learns = c.in_ok-learn_all.ensures.learns in
    let pending = c.args.follower.now.pending in
    let answered = all_answered c.args.runs.calls.now new pending c.in_ok-next.next c.requires.seated
    (subst (λ (x : List Kept). AllKnown new pending x) c.configurations.ensures c.in_ok-learn_all.ensures.known) in
    record {
      learns = learns_on c.args.runs.component.now c.args.runs.calls.now c.args.table.now c.loop-round.table new inv.learns learns;
      known = rw (add-one c.loop-round._round) (known_next c.args.runs.calls.now pending c.args.follower.now.returns c.requires.seated c.args.thread c.args.follower.now.monitor c.in_ok-next.next c.loop-round.table new learns.grows c.loop-round._round inv.known c.in_ok-next.ensures answered);
    }

pub returns-clause-known : goal.returns-clause-known
returns-clause-known c =
    let last = c.loop-round.auto in
    let past = c.loop-round-test.false in
    let nine : c.loop-round._round ≡ 9 = omega (arith, last._round-end, past) in
    known_last c.args.runs.calls.now c.args.follower.now.pending c.args.follower.now.returns c.requires.seated c.args.thread c.args.follower.now.monitor c.in_ok-call.field-0 c.loop-round.table
    (subst (λ i. KnownWithin c.args.follower.now.pending c.args.follower.now.returns c.args.thread c.args.follower.now.monitor i c.loop-round.table) nine c.loop-round.invariant.known) c.in_ok-call.ensures

use Rattle.std.proofs.Common.{◌≡◌, None, Some, sym, subst, [], ◌++◌, List}
use Rattle.std.proofs.lemmas.List.{append-nil}
use Rattle.std.proofs.lemmas.Result.{IfOk-weaker}
use Rattle.lu_test.specs.declared.matrix.Call.{Call as ACall}
use Rattle.lu_client.specs.Alone.{rest_of}
use Rattle.lu_run.specs.declared.run.RunEvent.{RunEvent}
use Rattle.lu_run.specs.Judging.{FollowsAll, IsFailure, IsFollowed, IsVerdict, NamesOffence, OfEachRun, StartsAt, TellsLost, TellsOfEach}
use Rattle.lu_run.specs.Offending.{AreReached, IsFollowFault, Learns}
use Rattle.lu_run.specs.Runs.{history_of}
use Rattle.lu_run.proofs.Beginning.{starts_grown}
use Rattle.lu_run.proofs.Failing.{at_end, lost_fails, offence_found}
use Rattle.lu_run.proofs.Known.{has_later}
use Rattle.lu_run.proofs.judging.judge_by_all.Goals as goal

pub failure_of-requires-clause-start : goal.failure_of-requires-clause-start
failure_of-requires-clause-start c = has_later c.args.table.now c.follow_all.new.table c.in-Ok.ensures.learns.grows 0 c.requires.start

pub returns-in-Err : goal.returns-in-Err
returns-in-Err c = rw c.requires.same (λ setup s start starts run reached.
    let component = c.args.runs.component.now in
    let bound = c.args.runs.bound in
    let table = c.args.table.now in
    let r = c.args.run.now in
    let is = subst (λ (x : List ACall). IsFollowFault component x bound table c.in-Err.fault) c.requires.same c.in-Err.ensures.offends in
    IfOk-weaker c.offence.result (NamesOffence c.in-Err.fault) (IsVerdict component bound s r)
    (offence_found component bound s r table c.in-Err.fault is reached) c.offence.ensures)

pub returns-in-None : goal.returns-in-None
returns-in-None c = rw c.requires.same (λ setup s start starts run reached.
    let component = c.args.runs.component.now in
    let bound = c.args.runs.bound in
    let r = c.args.run.now in
    let calls = r.calls.items in
    let events = r.events.items in
    let table = c.args.table.now in
    let new = c.follow_all.new.table in
    let f = c.in-Ok.all.follower in
    let follows = subst (λ (x : List RunEvent). FollowsAll component calls table x new f) c.deref.ensures.value (subst (λ (x : List ACall). FollowsAll component x table c.deref.result.now new f) c.requires.same c.in-Ok.ensures.follows) in
    let tells = subst (λ (x : List RunEvent). TellsOfEach component calls table x c.in-Ok.all.lost) c.deref.ensures.value (subst (λ (x : List ACall). TellsOfEach component x table c.deref.result.now c.in-Ok.all.lost) c.requires.same c.in-Ok.ensures.tells) in
    let whole : events ≡ events ++ [] = sym (append-nil events) in
    let was : IsFollowed component s calls events new f.pending f.monitor (history_of events) = follows setup events [] s start starts run whole in
    let told : TellsLost s events None = subst (TellsLost s events) c.in-None.is (tells setup events [] s start starts run whole) in
    at_end component setup bound r s start run new f.pending f.monitor was told c.end_verdict.result c.end_verdict.ensures)

pub returns-in-Ok-failure_of : goal.returns-in-Ok-failure_of
returns-in-Ok-failure_of c = rw c.requires.same (λ setup s start starts run reached.
    let component = c.args.runs.component.now in
    let r = c.args.run.now in
    let calls = r.calls.items in
    let events = r.events.items in
    let table = c.args.table.now in
    let new = c.follow_all.new.table in
    let f = c.in-Ok.all.follower in
    let later : StartsAt new s = starts_grown table new s c.in-Ok.ensures.learns.grows c.requires.start starts in
    let follows = subst (λ (x : List RunEvent). FollowsAll component calls table x new f) c.deref.ensures.value (subst (λ (x : List ACall). FollowsAll component x table c.deref.result.now new f) c.requires.same c.in-Ok.ensures.follows) in
    let tells = subst (λ (x : List RunEvent). TellsOfEach component calls table x c.in-Ok.all.lost) c.deref.ensures.value (subst (λ (x : List ACall). TellsOfEach component x table c.deref.result.now c.in-Ok.all.lost) c.requires.same c.in-Ok.ensures.tells) in
    let whole : events ≡ events ++ [] = sym (append-nil events) in
    let was : IsFollowed component s calls events new f.pending f.monitor (history_of events) = follows setup events [] s start starts run whole in
    let told : TellsLost s events (Some c.in-Some.kept) = subst (TellsLost s events) c.in-Some.is (tells setup events [] s start starts run whole) in
    let failure = c.in-Ok-failure_of.failure in
    let kept = c.in-Some.kept in
    let fails = subst (λ (x : List RunEvent). OfEachRun component calls new x (λ s all. TellsLost s x (Some kept) → IsFailure s x failure)) c.deref-in-Some.ensures.value (subst (λ (x : List ACall). OfEachRun component x new c.deref-in-Some.result.now (λ s all. TellsLost s c.deref-in-Some.result.now (Some kept) → IsFailure s c.deref-in-Some.result.now failure)) c.requires.same c.in-Ok-failure_of.ensures.fails) in
    let found = fails setup events [] s start later run whole told in (
      found.0,
      lost_fails component setup calls events s start run new f.pending f.monitor was r.is_stuck told.2,
      found.1,
    ))

pub returns : goal.returns
returns c = rw c.requires.same (λ setup s start starts run reached.
    let component = c.args.runs.component.now in
    let bound = c.args.runs.bound in
    let r = c.args.run.now in
    let new = c.follow_all.new.table in
    let later : AreReached component r.calls.items (rest_of s) new = (subst (λ (x : List ACall). Learns component x c.args.table.now new) c.requires.same c.in-Ok.ensures.learns).reached (rest_of s) reached in
    let is = subst (λ (x : List ACall). IsFollowFault component x bound new c.in-Err-failure_of.fault) c.requires.same c.in-Err-failure_of.ensures.offends in
    IfOk-weaker c.offence-in-Err-failure_of.result (NamesOffence c.in-Err-failure_of.fault) (IsVerdict component bound s r)
    (offence_found component bound s r new c.in-Err-failure_of.fault is later) c.offence-in-Err-failure_of.ensures)

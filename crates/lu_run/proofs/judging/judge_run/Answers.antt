use Rattle.std.proofs.Common.{refl, subst, List}
use Rattle.std.proofs.lemmas.Result.{IfOk-weaker}
use Rattle.lu_test.specs.declared.matrix.Call.{Call as ACall}
use Rattle.lu_client.specs.Alone.{rest_of}
use Rattle.lu_run.specs.Judging.{IsVerdict, NamesOffence, OfRun, RunPasses, StartsAt}
use Rattle.lu_run.specs.Offending.{AreReached, IsFollowFault, Learns}
use Rattle.lu_run.specs.Runs.{matrix_of}
use Rattle.std.specs.Prelude.{IfOk}
use Rattle.lu_run.proofs.Beginning.{first_reached, first_starts, first_state, starts_grown}
use Rattle.lu_run.proofs.Failing.{offence_found}
use Rattle.lu_run.proofs.Known.{has_later}
use Rattle.lu_run.proofs.judging.judge_run.Goals as goal

pub passes_at_once-requires-clause-start : goal.passes_at_once-requires-clause-start
passes_at_once-requires-clause-start c = first_state c.args.component.now c.args.run.now.calls.items c.in_ok-start.start c.in_ok-table.table c.in_ok-table.ensures c.in_ok-start.ensures.at_rest

pub passes_at_once-requires-clause-calls : goal.passes_at_once-requires-clause-calls
passes_at_once-requires-clause-calls c = rw c.deref.ensures.value c.requires.calls

pub judge_by_all-requires-clause-start : goal.judge_by_all-requires-clause-start
judge_by_all-requires-clause-start c = has_later c.in_ok-table.table c.passes_at_once.new.table c.in-Ok-false.ensures.learns.grows 0 (first_state c.args.component.now c.args.run.now.calls.items c.in_ok-start.start c.in_ok-table.table c.in_ok-table.ensures c.in_ok-start.ensures.at_rest)

pub judge_by_all-requires-clause-calls : goal.judge_by_all-requires-clause-calls
judge_by_all-requires-clause-calls c = rw c.deref.ensures.value c.requires.calls

pub returns-in-Ok-true : goal.returns-in-Ok-true
returns-in-Ok-true c = λ s start.
    let component = c.args.component.now in
    let setup = c.args.matrix.now.setup in
    let calls = c.args.run.now.calls.items in
    let table = c.in_ok-table.table in
    let p = c.in_ok-start.start in
    let same = c.in_ok-start.ensures.rest (matrix_of setup calls c.args.run.now.events.items) s refl start in
    let starts : StartsAt table s = first_starts component calls p table c.in_ok-table.ensures c.in_ok-start.ensures.at_rest s same in
    let events = c.args.run.now.events.items in
    let finds = subst (λ (x : List ACall). OfRun component x table events (λ t. RunPasses t c.args.run.now)) c.deref.ensures.value (c.in-Ok-true.ensures.finds c.in-Ok-true.field-0-test) in
    finds setup s start starts c.requires.run

pub returns-in-Ok-false : goal.returns-in-Ok-false
returns-in-Ok-false c = λ s start.
    let component = c.args.component.now in
    let setup = c.args.matrix.now.setup in
    let calls = c.args.run.now.calls.items in
    let table = c.in_ok-table.table in
    let new = c.passes_at_once.new.table in
    let p = c.in_ok-start.start in
    let same = c.in_ok-start.ensures.rest (matrix_of setup calls c.args.run.now.events.items) s refl start in
    let starts : StartsAt table s = first_starts component calls p table c.in_ok-table.ensures c.in_ok-start.ensures.at_rest s same in
    let first : AreReached component calls (rest_of s) table = first_reached component calls p table c.in_ok-table.ensures c.in_ok-start.ensures.at_rest (rest_of s) same in
    let events = c.args.run.now.events.items in
    let run = c.args.run.now in
    let learns = subst (λ (x : List ACall). Learns component x table new) c.deref.ensures.value c.in-Ok-false.ensures.learns in
    let later : StartsAt new s = starts_grown table new s learns.grows (first_state component calls p table c.in_ok-table.ensures c.in_ok-start.ensures.at_rest) starts in
    let judges = subst (λ (x : List ACall). OfRun component x new events (λ t. AreReached component x (rest_of t) new → IfOk c.judge_by_all.result (IsVerdict component c.args.bound t run))) c.deref.ensures.value c.judge_by_all.ensures in
    judges setup s start later c.requires.run (learns.reached (rest_of s) first)

pub returns : goal.returns
returns c = λ s start.
    let component = c.args.component.now in
    let calls = c.args.run.now.calls.items in
    let table = c.in_ok-table.table in
    let p = c.in_ok-start.start in
    let same = c.in_ok-start.ensures.rest (matrix_of c.args.matrix.now.setup calls c.args.run.now.events.items) s refl start in
    let reached : AreReached component calls (rest_of s) table = first_reached component calls p table c.in_ok-table.ensures c.in_ok-start.ensures.at_rest (rest_of s) same in
    let is = subst (λ (x : List ACall). IsFollowFault component x c.args.bound table c.in-Err.fault) c.deref.ensures.value c.in-Err.ensures.offends in
    IfOk-weaker c.offence.result (NamesOffence c.in-Err.fault) (IsVerdict component c.args.bound s c.args.run.now)
    (offence_found component c.args.bound s c.args.run.now table c.in-Err.fault is reached) c.offence.ensures

use Rattle.std.proofs.Common.{inr, sym, ◌∙◌, ap, subst, take}
use Rattle.std.proofs.lemmas.Result.{err_from_is_err_and}
use Rattle.lu_linearization.specs.Configurations.{effects_in}
use Rattle.lu_run.specs.Judging.{StartsAt}
use Rattle.lu_run.specs.Ordering.{IsOrder, Replays, entries_of}
use Rattle.lu_run.specs.Runs.{history_of}
use Rattle.lu_run.proofs.Beginning.{starts_grown}
use Rattle.lu_run.proofs.Known.{has_later}
use Rattle.lu_run.proofs.Learning.{fault_earlier}
use Rattle.lu_run.proofs.ordering.find_order.Goals as goal

pub play_threads-requires-clause-start : goal.play_threads-requires-clause-start
play_threads-requires-clause-start c = has_later c.args.table.now c.find_threads.new.table c.in_ok-threads.ensures.learns.grows 0 c.requires.start

pub returns-in_err-played-clause-offends : goal.returns-in_err-played-clause-offends
returns-in_err-played-clause-offends c =
    let p = err_from_is_err_and c.from_residual-in_err-played.result c.from_residual-in_err-played.ensures.1 in
    rw (p.1, p.2) (fault_earlier c.args.runs.component.now c.args.runs.calls.now c.args.runs.bound c.args.table.now c.find_threads.new.table c.in_err-played.field-0.0 c.in_ok-threads.ensures.learns c.in_err-played.ensures.offends)

pub returns-then-has_outcome-clause-order : goal.returns-then-has_outcome-clause-order
returns-then-has_outcome-clause-order c = λ events rest cut setup s start starts run.
    let runs = c.args.runs in
    let part = c.args.events.now in
    let mid = c.find_threads.new.table in
    let played = c.in-Some-2.played in
    let replays : Replays runs part mid c.play_threads.new.table played = rw c.in-Some-2.is at c.in_ok-played.ensures.replays in
    let later : StartsAt mid s = starts_grown c.args.table.now mid s c.in_ok-threads.ensures.learns.grows c.requires.start starts in
    let is = (replays.1 events rest cut).replayed setup s start later run in
    inr (record {
      is = subst (λ n. IsOrder s runs.calls.now events n played.order.items) replays.0 is.order;
      effect = ap (λ n. effects_in (entries_of played.order.items) (history_of (take n events)) c.args.thread) (sym replays.0) ∙ (is.effects c.args.thread ∙ c.has_outcome.ensures c.if-has_outcome.true);
    })

use Rattle.std.proofs.Common.{arith, [], sym}
use Rattle.std.proofs.lemmas.List.{append-nil}
use Rattle.std.proofs.lemmas.Result.{err_from_is_err_and}
use Rattle.lu_run.specs.declared.ordering.Replay.{Replay}
use Rattle.lu_run.specs.Ordering.{StepsTo}
use Rattle.lu_run.proofs.Learning.{fault_earlier, learns_none, learns_on}
use Rattle.lu_run.proofs.Replayed.{replay_first}
use Rattle.lu_run.proofs.ordering.play_threads.Goals as goal

pub loop-step-init : goal.loop-step-init
loop-step-init c =
    let component = c.args.runs.component.now in
    let calls = c.args.runs.calls.now in
    let table = c.args.table.now in
    let start = c.first_attempt.ensures in
    let now : Replay = record { attempt = c.first_attempt.result; order = c.new.result } in
    record {
      learns = learns_none component calls table c.requires.table;
      within = (let none = start.events in omega (arith, none));
      replays = λ events rest cut. replay_first component calls events table now c.requires.table c.requires.start start.events start.state start.pending start.effects c.new.ensures.items;
    }

pub step-requires-clause-from : goal.step-requires-clause-from
step-requires-clause-from c =
    let part = c.args.events.now in
    (c.loop-step.invariant.replays part [] (sym (append-nil part))).sound.is

pub returns-in_err-step-clause-offends : goal.returns-in_err-step-clause-offends
returns-in_err-step-clause-offends c =
    let p = err_from_is_err_and c.from_residual.result c.from_residual.ensures.1 in
    rw (p.1, p.2) (fault_earlier c.args.runs.component.now c.args.runs.calls.now c.args.runs.bound c.args.table.now c.loop-step.table c.in_err-step.field-0.0 c.loop-step.invariant.learns c.in_err-step.ensures.offends)

pub returns-in-None-clause-learns : goal.returns-in-None-clause-learns
returns-in-None-clause-learns c = learns_on c.args.runs.component.now c.args.runs.calls.now c.args.table.now c.loop-step.table c.step.new.table c.loop-step.invariant.learns c.in_ok-step.ensures.learns

pub loop-step-preserved : goal.loop-step-preserved
loop-step-preserved c =
    let runs = c.args.runs in
    let first = c.args.table.now in
    let inv = c.loop-step.invariant in
    let steps : StepsTo runs c.args.events.now c.loop-step.table c.loop-step.now c.step.new.table c.in-Some.next = rw c.in-Some.is at c.in_ok-step.ensures.steps in
    record {
      learns = learns_on runs.component.now runs.calls.now first c.loop-step.table c.step.new.table inv.learns c.in_ok-step.ensures.learns;
      within = steps.0 inv.within;
      replays = λ events rest cut. steps.1 events rest first cut (inv.replays events rest cut);
    }

use Rattle.std.proofs.Common.{arith, ◌≡◌, ◌<◌, ℕ, ◌∙◌, Some, take, sym, ap, subst, slice_get}
use Rattle.std.proofs.lemmas.Option.{slice_get-get_or}
use Rattle.std.proofs.lemmas.Result.{err_from_is_err_and}
use Rattle.lu_history.proofs.Events.{at_take}
use Rattle.lu_run.specs.Judging.{IsExpected, OfEachRun}
use Rattle.lu_run.proofs.Expected.{failure_told, thread_below}
use Rattle.lu_run.proofs.Known.{has_later}
use Rattle.lu_run.proofs.Learning.{fault_earlier}
use Rattle.lu_run.proofs.judging.failure_of.Goals as goal

pub returns-in_default-clause-fails : goal.returns-in_default-clause-fails
returns-in_default-clause-fails c = λ setup all rest s start starts run cut given.
    let first = c.in_ok-event.ensures.first setup all rest s start starts run cut given in
    let within = first.within in
    let past = c.in_default.ensures.lookup.3 in
    absurd (omega (arith, within, past))

pub expected_outcome-requires-clause-start : goal.expected_outcome-requires-clause-start
expected_outcome-requires-clause-start c = has_later c.args.table.now c.first_lost.new.table c.in_ok-event.ensures.learns.grows 0 c.requires.start

pub expected_outcome-requires-clause-events : goal.expected_outcome-requires-clause-events
expected_outcome-requires-clause-events c = λ i e at. c.requires.events i e (at_take c.args.events.now e i c.in_ok-event.event at).1

pub expected_outcome-requires-clause-thread : goal.expected_outcome-requires-clause-thread
expected_outcome-requires-clause-thread c =
    let l = c.in-Some.ensures.lookup in
    let n = c.in_ok-event.event in
    let e = c.in-Some.lost.now in
    let there : slice_get c.args.events.now n ≡ Some e = slice_get-get_or c.args.events.now n e l.3.0 ∙ ap Some (sym l.1) in
    subst (λ (t : ℕ). t < 8) (sym c.thread_of-thread.ensures) (thread_below c.args.runs.calls.now e (c.requires.events n e there))

pub returns-in_err-expected-clause-offends : goal.returns-in_err-expected-clause-offends
returns-in_err-expected-clause-offends c =
    let p = err_from_is_err_and c.from_residual-in_err-expected.result c.from_residual-in_err-expected.ensures.1 in
    rw (p.1, p.2) (fault_earlier c.args.runs.component.now c.args.runs.calls.now c.args.runs.bound c.args.table.now c.first_lost.new.table c.in_err-expected.field-0.0 c.in_ok-event.ensures.learns c.in_err-expected.ensures.offends)

pub returns-clause-fails : goal.returns-clause-fails
returns-clause-fails c =
    let component = c.args.runs.component.now in
    let calls = c.args.runs.calls.now in
    let events = c.args.events.now in
    let l = c.in-Some.ensures.lookup in
    let n = c.in_ok-event.event in
    let e = c.in-Some.lost.now in
    let now = c.first_lost.new.table in
    let expected = c.in_ok-expected.expected in
    let there : slice_get events n ≡ Some e = slice_get-get_or events n e l.3.0 ∙ ap Some (sym l.1) in
    failure_told component calls c.args.table.now now c.in_ok-event.ensures.learns.grows c.requires.start events c.args.kept n e expected there c.in_ok-event.ensures.first
    (subst (λ (t : ℕ). OfEachRun component calls now (take n events) (λ s all. IsExpected s (take n events) t expected)) c.thread_of-thread.ensures c.in_ok-expected.ensures.expects)

use Rattle.lu_run.specs.Ordering.{FollowsTo, PlacesTo, StepsTo}
use Rattle.lu_run.proofs.Replayed.{seated, some_weaker, step_followed, step_placed}
use Rattle.lu_run.proofs.ordering.step.Goals as goal

pub follow-requires-clause-event : goal.follow-requires-clause-event
follow-requires-clause-event c = seated c.args.runs.calls.now c.in-Some.event (c.requires.events c.args.from.attempt.events c.in-Some.event c.in-Some.ensures.1)

pub returns-in-Some-clause-steps : goal.returns-in-Some-clause-steps
returns-in-Some-clause-steps c =
    let e = c.in-Some.event in
    some_weaker c.follow.result (FollowsTo e c.args.from) (StepsTo c.args.runs c.args.events.now c.args.table.now c.args.from c.args.table.now)
    (λ to follows. step_followed c.args.runs c.args.events.now c.args.table.now c.args.from to e c.in-Some.ensures (c.requires.events c.args.from.attempt.events e c.in-Some.ensures.1) follows)
    c.follow.ensures

pub returns-in_ok-placed-in-Some-thread-clause-steps : goal.returns-in_ok-placed-in-Some-thread-clause-steps
returns-in_ok-placed-in-Some-thread-clause-steps c =
    let runs = c.args.runs in
    let part = c.args.events.now in
    let old = c.args.table.now in
    let new = c.place.new.table in
    let from = c.args.from in
    some_weaker c.in_ok-placed-in-Some-thread.placed (PlacesTo runs old from new) (StepsTo runs part old from new)
    (λ to places. step_placed runs part old new from to places) c.in_ok-placed-in-Some-thread.ensures.places

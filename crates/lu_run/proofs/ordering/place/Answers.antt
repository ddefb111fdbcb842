use Rattle.std.proofs.Common.{arith, ◌<◌, subst}
use Rattle.lu_run.specs.declared.ordering.Replay.{Replay}
use Rattle.lu_run.specs.Finding.{IsAfterEffect}
use Rattle.lu_run.proofs.Replayed.{replay_effect}
use Rattle.lu_run.proofs.ordering.place.Goals as goal

pub returns-clause-places : goal.returns-clause-places
returns-clause-places c =
    let table = c.take_effect.new.table in
    let learns = c.in_ok-to.ensures.learns in
    let new : Replay = record { attempt = c.in-Some.to; order = c.add.new.order } in
    let past = c.if-thread-ge8.false in
    let seat : c.args.thread < 8 = omega (arith, past) in
    let step = subst (λ t. IsAfterEffect table c.args.from.attempt t c.in-Some.to) c.from.ensures (rw c.in-Some.is at c.in_ok-to.ensures.effect) in
    (step.effect.events, λ events first was. replay_effect c.args.runs.component.now c.args.runs.calls.now events first c.args.table.now table c.args.from new c.args.thread c.in-Some-operation_of.operation learns.grows learns.right seat step c.in-Some-operation_of.ensures c.in_ok-add.ensures was)

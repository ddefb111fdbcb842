use Rattle.std.proofs.Common.{sym, ◌∙◌}
use Rattle.std.proofs.lemmas.List.{append-nil}
use Rattle.lu_machine.specs.declared.event.Event.TheVariants.{Call, Return}
use Rattle.lu_judge.proofs.Returning.{returned_next}
use Rattle.lu_judge.proofs.trail.returned.Goals.{in-Call, in-Return+in_ok-push-in-Return}
use Rattle.lu_judge.proofs.trail.returned.Goals as goal

pub loop-event-preserved : goal.loop-event-preserved
loop-event-preserved c =
    let h = c.args.events.now in
    let i = c.loop-event.event-index in
    elim c.match-event.branch [
      | in-Call w ↦
          (let next = returned_next h i (Call 0 0) (Call w.in-Call.t w.in-Call.k) c.loop-event-test.true w.in-Call.is in
          rw w.ops-is (c.loop-event.invariant ∙ sym (next ∙ append-nil _)))
      | in-Return+in_ok-push-in-Return w ↦
          (let next = returned_next h i (Call 0 0) (Return w.in-Return.t w.in-Return.k w.in-Return.outcome) c.loop-event-test.true w.in-Return.is in
          rw (w.ops-is, next, ← c.loop-event.invariant, ← w.from.ensures) w.in_ok-push-in-Return.ensures.items)
    ]

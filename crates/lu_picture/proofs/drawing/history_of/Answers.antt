use Rattle.lu_machine.specs.declared.event.Event.TheVariants.{Call}
use Rattle.lu_picture.specs.declared.mark.Mark.{Mark}
use Rattle.lu_picture.proofs.Drawn.{events_on}
use Rattle.lu_picture.proofs.drawing.history_of.Goals as goal

pub loop-mark-preserved : goal.loop-mark-preserved
loop-mark-preserved c =
    let none : Mark = record { top = 0; event = Call 0 0 } in
    events_on c.args.marks.now c.loop-mark.mark-index none c.loop-mark.history c.push.new.self c.loop-mark-test.true c.loop-mark.invariant c.in_ok-push.ensures.ok

use Rattle.std.specs.Option.{option_copied}
use Rattle.lu_machine.specs.declared.event.Event.TheVariants.{Call}
use Rattle.lu_picture.specs.declared.mark.Mark.{Mark}
use Rattle.lu_picture.proofs.Barred.{length_on, mark_in_range}
use Rattle.lu_picture.proofs.foot.longest_line.Goals as goal

pub line_length-requires : goal.line_length-requires
line_length-requires c =
    let none : Mark = record { top = 0; event = Call 0 0 } in
    mark_in_range c.args.marks.now c.loop-mark.mark-index none c.requires c.loop-mark-test.true

pub loop-mark-preserved : goal.loop-mark-preserved
loop-mark-preserved c =
    let none : Mark = record { top = 0; event = Call 0 0 } in
    length_on c.args.machine.now c.args.marks.now (option_copied c.args.explanation) c.loop-mark.mark-index none c.loop-mark.longest c.in_ok-long.long c.max-longest.result c.loop-mark-test.true c.loop-mark.invariant c.in_ok-long.ensures c.max-longest.ensures

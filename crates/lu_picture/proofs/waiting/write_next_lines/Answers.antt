use Rattle.std.proofs.Common.{string_bytes}
use Rattle.lu_picture.proofs.Waited.{lines_on}
use Rattle.lu_picture.proofs.waiting.write_next_lines.Goals as goal

pub loop-pick-preserved : goal.loop-pick-preserved
loop-pick-preserved c =
    lines_on c.args.how.now c.args.machine.now c.args.t c.loop-pick.pick (string_bytes c.args.text.now) (string_bytes c.loop-pick.text) (string_bytes c.write_next_line.new.text) c.loop-pick.invariant c.in_ok-write_next_line.ensures

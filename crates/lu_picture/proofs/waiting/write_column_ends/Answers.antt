use Rattle.std.proofs.Common.{string_bytes}
use Rattle.lu_picture.proofs.Waited.{ends_on}
use Rattle.lu_picture.proofs.waiting.write_column_ends.Goals as goal

pub loop-t-preserved : goal.loop-t-preserved
loop-t-preserved c =
    ends_on c.args.how.now c.args.edge c.args.machine.now c.loop-t.t (string_bytes c.args.text.now) (string_bytes c.loop-t.text) (string_bytes c.write_column_end.new.text) c.loop-t.invariant c.in_ok-write_column_end.ensures

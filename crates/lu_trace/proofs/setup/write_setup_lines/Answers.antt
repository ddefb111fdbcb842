use Rattle.std.proofs.Common.{string_bytes}
use Rattle.lu_trace.proofs.SetupRuns.{one_line_more}
use Rattle.lu_trace.proofs.setup.write_setup_lines.Goals as goal

pub loop-line-preserved : goal.loop-line-preserved
loop-line-preserved c =
    one_line_more c.args.detail c.args.how.now c.loop-line._line c.args.machine.now c.loop-line.machine c.step_once.new.self c.step_once.result (string_bytes c.args.text.now) (string_bytes c.loop-line.text) (string_bytes c.write_setup_line.new.text) c.loop-line.invariant c.step_once.ensures c.in_ok-write_setup_line.ensures

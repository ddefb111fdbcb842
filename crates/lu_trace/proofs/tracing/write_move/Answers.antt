use Rattle.std.proofs.Common.{string_bytes}
use Rattle.std.proofs.lemmas.Result.{on_ok_weaker}
use Rattle.lu_trace.proofs.Followed.{move_more}
use Rattle.lu_trace.proofs.tracing.write_move.Goals as goal

pub returns : goal.returns
returns c =
    on_ok_weaker c.run_on.result (λ more. move_more c.args.detail c.args.how.now c.args.number c.args.machine.now c.args.next c.step_once.new.self c.run_on.new.machine c.step_once.result (string_bytes c.args.text.now) (string_bytes c.write_line.new.text) (string_bytes c.run_on.new.text) c.more_local-more.result c.step_once.ensures c.more_local-more.ensures c.in_ok-write_line.ensures more) c.run_on.ensures

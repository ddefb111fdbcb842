use Rattle.std.proofs.Common.{string_bytes}
use Rattle.std.proofs.lemmas.Result.{on_ok_weaker}
use Rattle.lu_trace.proofs.SetupRuns.{alone_runs, alone_short, alone_starts, setup_added}
use Rattle.lu_trace.proofs.setup.write_setup.Goals as goal

pub start-requires : goal.start-requires
start-requires c = alone_runs c.args.test.component.now c.args.test.matrix.now c.in_ok-alone.alone c.in_ok-alone.ensures c.args.test.can_run

pub returns : goal.returns
returns c =
    let component = c.args.test.component.now in
    let calls = c.args.test.matrix.now.setup in
    let machine = c.in_ok-machine.machine in
    let short = alone_short calls c.in_ok-alone.alone c.in_ok-alone.ensures c.in_ok-machine.ensures.limits.1 in
    let starts = alone_starts component calls c.in_ok-alone.alone machine c.in_ok-alone.ensures c.in_ok-machine.ensures.starts in
    on_ok_weaker c.write_setup_lines.result (λ more. setup_added c.args.detail c.args.how.now component calls machine c.write_setup_lines.new.machine (string_bytes c.args.text.now) (string_bytes c.write_setup_lines.new.text) c.in_ok-machine.ensures.limits.0.local_few short c.args.test.can_run.settles starts more) c.write_setup_lines.ensures

use Rattle.std.proofs.Common.{subst}
use Rattle.lu_test.specs.Matrix.{Matrix}
use Rattle.lu_machine.specs.Starts.{IsStart}
use Rattle.lu_run.proofs.Beginning.{start_position}
use Rattle.lu_run.proofs.starting.start_of.Goals as goal

pub returns : goal.returns
returns c =
    let made = rw c.in-Some.is at c.in_ok-idle.ensures.calls in
    start_position c.args.component.now c.args.matrix.now.setup c.in_ok-machine.machine c.in_ok-position.position
    (subst (λ (x : Matrix). IsStart c.args.component.now x c.in_ok-machine.machine) made c.in_ok-machine.ensures.starts) c.in_ok-position.ensures.here c.in_ok-position.ensures.stands

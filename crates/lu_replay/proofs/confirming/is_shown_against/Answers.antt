use Rattle.lu_machine.specs.States.{State}
use Rattle.lu_machine.specs.Starts.{IsStart}
use Rattle.lu_replay.proofs.confirming.is_shown_against.Goals as goal

pub returns-in-Fail : goal.returns-in-Fail
returns-in-Fail g c = λ (s : State) (is : IsStart c.args.test.component.now c.args.test.matrix.now s). rw c.in-Fail.is (c.holds.ensures s is)

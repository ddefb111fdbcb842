use Rattle.lu_late.proofs.Enough.{steps_are_enough}
use Rattle.lu_late.proofs.Steps.{steps_tell_all}
use Rattle.lu_late.proofs.laws.step_laws.Goals as goal

pub returns : goal.returns
returns _ = record {
  ends = steps_tell_all;
  enough = steps_are_enough;
}

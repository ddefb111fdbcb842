use Rattle.lu_late.proofs.Freed.{steps_tell_rests}
use Rattle.lu_late.proofs.laws.rest_law.Goals as goal

pub returns : goal.returns
returns _ = steps_tell_rests

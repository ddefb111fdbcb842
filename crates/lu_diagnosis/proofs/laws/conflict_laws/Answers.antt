use Rattle.lu_diagnosis.proofs.SerialRun.{shown_are_both}
use Rattle.lu_diagnosis.proofs.laws.conflict_laws.Goals as goal

pub returns : goal.returns
returns _ = shown_are_both

use Rattle.lu_survey.proofs.InSlices.{whole_slices}
use Rattle.lu_survey.proofs.laws.whole_slices.Goals as goal

pub returns : goal.returns
returns _ = whole_slices

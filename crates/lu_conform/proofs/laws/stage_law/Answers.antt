use Rattle.lu_conform.proofs.Onward.{all_are_among}
use Rattle.lu_conform.proofs.laws.stage_law.Goals as goal

pub returns : goal.returns
returns _ = all_are_among

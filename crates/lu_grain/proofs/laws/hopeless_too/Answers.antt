use Rattle.lu_grain.proofs.NeverEnded.{hopeless_alike, loses_hope_too}
use Rattle.lu_grain.proofs.laws.hopeless_too.Goals as goal

pub returns : goal.returns
returns _ = record { state = hopeless_alike; schedule = loses_hope_too }

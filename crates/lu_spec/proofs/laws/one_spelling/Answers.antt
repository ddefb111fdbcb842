use Rattle.lu_spec.proofs.Spelling.{one_spelling}
use Rattle.lu_spec.proofs.laws.one_spelling.Goals as goal

pub returns : goal.returns
returns _ = one_spelling

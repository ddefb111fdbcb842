use Rattle.std.proofs.Common.{refl}
use Rattle.lu_run.proofs.finding.find_linearization.Goals as goal

pub returns-clause-finds : goal.returns-clause-finds
returns-clause-finds c = λ found. (rw c.in-Some.is at c.in_ok-search.ensures.finds) refl

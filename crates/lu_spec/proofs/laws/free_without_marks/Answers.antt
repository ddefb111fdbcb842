use Rattle.lu_spec.proofs.FreeAlike.{firm_is_plain, read_alike, refused_alike}
use Rattle.lu_spec.proofs.laws.free_without_marks.Goals as goal

pub returns-clause-conflicts : goal.returns-clause-conflicts
returns-clause-conflicts _ = λ listed. firm_is_plain listed

pub returns-clause-read : goal.returns-clause-read
returns-clause-read _ = λ matrix text members none. read_alike matrix text members none

pub returns-clause-refused : goal.returns-clause-refused
returns-clause-refused _ = λ matrix text fault none. refused_alike matrix text fault none

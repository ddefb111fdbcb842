use Rattle.lu_refine.proofs.Passing.{one_answer, slices_joined, whole_found}
use Rattle.lu_refine.proofs.laws.slices_join.Goals as goal

pub returns-clause-join : goal.returns-clause-join
returns-clause-join _ = record { join = slices_joined; whole = whole_found }

pub returns-clause-one_answer : goal.returns-clause-one_answer
returns-clause-one_answer _ = one_answer

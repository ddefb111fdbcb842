use Rattle.lu_machine.proofs.Unseen.{local_unseen, one_without_local}
use Rattle.lu_machine.proofs.laws.local_laws.Goals as goal

pub returns-clause-one_without : goal.returns-clause-one_without
returns-clause-one_without _ = one_without_local

pub returns-clause-unseen : goal.returns-clause-unseen
returns-clause-unseen _ = local_unseen

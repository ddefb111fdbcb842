use Rattle.lu_spec.proofs.Deepened.{beginnings_close}
use Rattle.lu_spec.proofs.beginnings.Beginnings.of.Goals as goal

pub returns-clause-closure : goal.returns-clause-closure
returns-clause-closure g c = beginnings_close _

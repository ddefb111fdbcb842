use Rattle.lu_refute.proofs.Every.{none_linearizable, failing_is_not_linearizable}
use Rattle.lu_refute.proofs.laws.none_linearizable.Goals as goal

pub returns : goal.returns
returns _ = record { confirmed = none_linearizable; reported = failing_is_not_linearizable }

use Rattle.lu_refute.proofs.Outside.{spec_is_serial}
use Rattle.lu_refute.proofs.laws.spec_is_serial.Goals as goal

pub returns : goal.returns
returns _ = spec_is_serial

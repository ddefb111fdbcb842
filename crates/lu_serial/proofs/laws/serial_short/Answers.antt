use Rattle.lu_serial.proofs.Short.{takes_few}
use Rattle.lu_serial.proofs.laws.serial_short.Goals as goal

pub returns : goal.returns
returns c = λ s bound u q n none ended takes. takes_few s bound u q none ended n takes

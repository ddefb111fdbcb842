use Rattle.std.proofs.Common.{length}
use Rattle.lu_spec.proofs.fitting.+fits_in.Given as goal

abbrev pub decreases-fits_in : goal.decreases-fits_in
decreases-fits_in l = length l.history.now

use Rattle.lu_test.proofs.MatrixRoundTrip.{matrix_again}
use Rattle.lu_test.proofs.laws.round_trip.Goals as goal

pub returns : goal.returns
returns c = λ component matrix is m fits. matrix_again component matrix is m fits

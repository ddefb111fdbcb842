use Rattle.lu_spec.proofs.Rereading.{reads_again}
use Rattle.lu_spec.proofs.laws.read_again.Goals as goal

pub returns : goal.returns
returns _ = reads_again

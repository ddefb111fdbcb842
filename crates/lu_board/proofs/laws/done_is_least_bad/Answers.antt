use Rattle.lu_board.proofs.Reached.{reached_least}
use Rattle.lu_board.proofs.laws.done_is_least_bad.Goals as goal

pub returns : goal.returns
returns c = reached_least

use Rattle.lu_board.proofs.Reached.{reached_fits}
use Rattle.lu_board.proofs.laws.legal_events_fit.Goals as goal

pub returns : goal.returns
returns c = reached_fits

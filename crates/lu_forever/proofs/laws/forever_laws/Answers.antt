use Rattle.lu_forever.proofs.Deciding.{one_round_decides}
use Rattle.lu_forever.proofs.Excluded.{never_offends}
use Rattle.lu_forever.proofs.laws.forever_laws.Goals as goal

pub returns : goal.returns
returns _ = record { never = never_offends; decides = one_round_decides }

use Rattle.lu_replay.proofs.Alike.{moves_alike}
use Rattle.lu_replay.proofs.confirming.is_same.Goals as goal

pub returns : goal.returns
returns c = rw (← c.moves.ensures.moves, ← c.moves-2.ensures.moves) (moves_alike c.moves.result.now c.moves-2.result.now c.eq.result c.eq.ensures)

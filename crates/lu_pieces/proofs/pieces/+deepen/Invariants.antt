use Rattle.std.proofs.Common.{◌-◌, length}
use Rattle.lu_pieces.proofs.pieces.+deepen.Given as goal

abbrev pub decreases-deepen : goal.decreases-deepen
decreases-deepen l = length l.piece.now - l.made

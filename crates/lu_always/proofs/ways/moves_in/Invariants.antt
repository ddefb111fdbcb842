use Rattle.std.proofs.Common.{◌≡◌, ◌++◌, length}
use Rattle.lu_always.specs.Ways.{all_moves}
use Rattle.lu_always.proofs.ways.moves_in.Given as goal

abbrev pub invariant-loop-arrival : goal.invariant-loop-arrival
invariant-loop-arrival l = all_moves l.fn.back.items ≡ l.moves.items ++ all_moves l.back.items

abbrev pub decreases-loop-arrival : goal.decreases-loop-arrival
decreases-loop-arrival l = length l.back.items

use Rattle.std.proofs.Common.{◌≡◌, ◌+◌, ◌<◌, [], All, length}
use Rattle.lu_board.specs.Seats.{TellsGiven, IsSeatOf, gathered}
use Rattle.lu_board.proofs.shared.gather.Given as goal

abbrev pub invariant-loop-seat : goal.invariant-loop-seat
invariant-loop-seat l = record {
  table : l.token.table_id ≡ l.fn.token.table_id;
  slots : l.token.me.1 ≡ [];
  weight : 0 < l.token.me.0.weight;
  all_weight : length l.seats.items + l.token.me.0.weight ≡ length l.fn.seats.items + l.fn.token.me.0.weight;
  given : TellsGiven l.gave_up l.token.me.0;
  own : All (IsSeatOf l.table.shared.table_id) l.seats.items;
  all : gathered l.seats.items l.token.me.0 ≡ gathered l.fn.seats.items l.fn.token.me.0;
}

abbrev pub decreases-loop-seat : goal.decreases-loop-seat
decreases-loop-seat l = goal.left-loop-seat l

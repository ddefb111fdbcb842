use Rattle.std.proofs.Common.{◌≡◌, ◌-◌, [], replicate}
use Rattle.lu_board.specs.Views.{newcomer}
use Rattle.lu_board.specs.Seats.{unused_seat}
use Rattle.lu_board.proofs.shared.Board.new.Given as goal

abbrev pub invariant-loop-dealt : goal.invariant-loop-dealt
invariant-loop-dealt l = record {
  table : l.rest.table_id ≡ l.table.shared.table_id;
  rest : l.rest.me ≡ (newcomer l.pieces (l.workers - l._dealt), []);
  seats : l.seats.items ≡ replicate l._dealt (unused_seat l.table.shared.table_id l.pieces);
}

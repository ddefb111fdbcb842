-- What the tests of boards say of a seat.
use Rattle.std.specs.Prelude.{◌≡◌, []}
use Rattle.atomic_table.specs.Seated.{TableId}
use Rattle.lu_board.specs.Seats.{Seat}

-- it is a seat of this board, and holds no piece
abbrev pub HoldsNone : TableId → Seat → Type 0
HoldsNone board seat = (seat.board ≡ board) × (seat.view.held ≡ [])

-- it is spent too
abbrev pub IsSpentSeat : TableId → Seat → Type 0
IsSpentSeat board seat = (seat.board ≡ board) × (seat.view.spent ≡ 1) × (seat.view.held ≡ [])

use Rattle.std.proofs.Common.{◌≡◌, ◌-◌, []}
use Rattle.lu_check_tests.proofs.boards.work.Given as goal

abbrev pub invariant-loop-piece : goal.invariant-loop-piece
invariant-loop-piece l = (l.seat.board ≡ l.board.board) × (l.seat.view.held ≡ [])

abbrev pub decreases-loop-piece : goal.decreases-loop-piece
decreases-loop-piece l = l.seat.view.pieces - l.seat.view.past

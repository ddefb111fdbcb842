use Rattle.std.proofs.Common.{◌≡◌, ◌-◌, []}
use Rattle.lu_parallel.proofs.worker.give_up_all.Given as goal

abbrev pub invariant-loop-piece : goal.invariant-loop-piece
invariant-loop-piece g l = record {
  board : l.seat.board ≡ l.job.board.now.board;
  held : l.seat.view.held ≡ [];
  clean : l.seat.view.clean ≡ [];
  found : l.seat.view.found ≡ [];
}

abbrev pub decreases-loop-piece : goal.decreases-loop-piece
decreases-loop-piece g l = l.seat.view.pieces - l.seat.view.past

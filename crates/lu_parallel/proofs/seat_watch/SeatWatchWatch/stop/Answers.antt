use Rattle.std.proofs.Common.{ap}
use Rattle.lu_board.specs.declared.view.View.{View}
use Rattle.lu_parallel.specs.declared.seat_watch.SeatBase.{SeatBase}
use Rattle.lu_parallel.proofs.Watching.{rest_skipped}
use Rattle.lu_parallel.proofs.seat_watch.SeatWatchWatch.stop.Goals as goal

pub returns-in-Skip-clause-base : goal.returns-in-Skip-clause-base
returns-in-Skip-clause-base g c =
    let w = c.args.self.now in
    let base : View → SeatBase = λ v. record { board = w.board.now; piece = w.piece; rest = v } in
    ap base (rest_skipped w.piece c.in-Skip.field-0 w.seat.view c.look.new.seat.view c.in-Skip.ensures.answer.2)

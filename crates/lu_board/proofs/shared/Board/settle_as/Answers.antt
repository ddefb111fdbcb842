use Rattle.std.proofs.Common.{rules, sym, subst}
use Rattle.lu_board.specs.Seats.{Seat}
use Rattle.lu_board.proofs.Counts.{Has, contains-has}
use Rattle.lu_board.proofs.Keeps.{settles}
use Rattle.lu_board.proofs.shared.Board.settle_as.Goals as goal

pub load-requires : goal.load-requires
load-requires g c =
    let held = subst (λ (h : Seat). Has h.view.held c.args.piece) (sym c.seat.view_is) (contains-has _ _ c.requires.held) in
    let named = subst (λ i. Has c.seat.inside.token.me.0.held i) (sym c.requires.piece.0) held in
    (search rules, search rules, settles _ _ _ _ _ _ _ named c.seat.invariant.0.weight)

use Rattle.std.proofs.Common.{rules, sym, subst}
use Rattle.lu_board.specs.Seats.{Seat}
use Rattle.lu_board.proofs.Counts.{Has, contains-has}
use Rattle.lu_board.proofs.Keeps.{lowers}
use Rattle.lu_board.proofs.shared.Board.lower.Goals as goal

pub fetch_min-requires : goal.fetch_min-requires
fetch_min-requires c =
    let held = subst (λ (h : Seat). Has h.view.held c.args.piece) (sym c.seat.view_is) (contains-has _ _ c.requires.held) in
    (search rules, search rules, lowers _ _ _ _ _ _ held c.seat.invariant.0.weight)

use Rattle.std.proofs.Common.{◌≡◌, ◌∙◌, [], ℕ, List, Contains, sym, ap, subst}
use Rattle.lu_board.specs.Close.{found_by, given_by}
use Rattle.lu_board.specs.Pieces.{IsLeastPiece}
use Rattle.lu_board.specs.Seats.{Seat, IsSeatOf, IsDone}
use Rattle.std.proofs.Common.{All, Some}
use Rattle.lu_parallel.specs.declared.works.FoundPiece.{FoundPiece}
use Rattle.lu_parallel.specs.Works.{found_pieces}
use Rattle.lu_parallel.specs.Conclusions.{founds_of}
use Rattle.lu_parallel.proofs.Ends.{seats_own, seats_done, founds_pieces, none_given}
use Rattle.lu_parallel.proofs.conclusion.conclude.Goals as goal

pub finish-close-requires-clause-own : goal.finish-close-requires-clause-own
finish-close-requires-clause-own c =
    subst (All (IsSeatOf c.args.board.board)) (sym c.in_ok-seats.ensures.seats) (seats_own c.args.board.board c.args.works.items c.requires.over)

pub finish-close-requires-clause-done : goal.finish-close-requires-clause-done
finish-close-requires-clause-done c = subst (All IsDone) (sym c.in_ok-seats.ensures.seats) (seats_done c.args.board.board c.args.works.items c.requires.over)

pub unwrap-schedule-requires : goal.unwrap-schedule-requires
unwrap-schedule-requires c =
    let works = c.args.works.items in
    let piece = c.in-Some.piece in
    let same : found_by c.in_ok-seats.field-0.seats.items ≡ found_pieces c.in_ok-seats.field-0.found.items =
    ap found_by c.in_ok-seats.ensures.seats ∙ (sym (founds_pieces c.args.board.board works c.requires.over) ∙ ap found_pieces (sym c.in_ok-seats.ensures.found)) in
    let least : IsLeastPiece (found_by c.in_ok-seats.field-0.seats.items) (Some piece) = rw c.in-Some.is at c.finish-close.ensures.best in
    c.entry_of.ensures.some (subst (λ (x : List ℕ). Contains x piece) same least.0)

pub returns-in-Some-clause-conclusion : goal.returns-in-Some-clause-conclusion
returns-in-Some-clause-conclusion c =
    let works = c.args.works.items in
    let piece = c.in-Some.piece in
    let seats = c.in_ok-seats.field-0.seats.items in
    let seats_are = c.in_ok-seats.ensures.seats in
    let entry = c.unwrap-schedule.result in
    let least : IsLeastPiece (found_by seats) (Some piece) = rw c.in-Some.is at c.finish-close.ensures.best in
    let has : Contains (founds_of works) entry = subst (λ (x : List FoundPiece). Contains x entry) c.in_ok-seats.ensures.found (rw c.unwrap-schedule.ensures at c.entry_of.ensures.entry) in
    let named : entry ≡ record { piece = piece; schedule = entry.schedule; why = entry.why } = ap (λ (i : ℕ). record { piece = i; schedule = entry.schedule; why = entry.why }) (rw c.unwrap-schedule.ensures at c.entry_of.ensures.piece) in (
      subst (λ (x : List Seat). given_by x ≡ []) seats_are (none_given c.finish-close.result.given_up (given_by seats) c.finish-close.ensures.given_up c.if-close.false),
      (
        piece,
        subst (λ (x : List Seat). IsLeastPiece (found_by x) (Some piece)) seats_are least,
        subst (λ (x : FoundPiece). Contains (founds_of works) x) named has,
      ),
    )

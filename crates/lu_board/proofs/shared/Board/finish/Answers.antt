use Rattle.std.proofs.Common.{arith, [], ◌∷◌, ◌≡◌, ◌<◌, ◌≤◌, ◌∙◌, sym, ap, subst, length, length-append, Some}
use Rattle.std.specs.Prelude.{slice_index}
use mathlib.Core.Option.{some}
use Rattle.lu_board.specs.declared.view.View.{View}
use Rattle.lu_board.specs.Pieces.{IsLeastPiece, AllAbove}
use Rattle.lu_board.specs.Seats.{Seat, Board, gathered}
use Rattle.lu_board.specs.Close.{SharesOut, found_by, skipped_by, given_by}
use Rattle.lu_board.proofs.Seats.{finishes, gathered-pieces, index-is}
use Rattle.lu_board.proofs.shared.Board.finish.Goals as goal

pub returns-then-best-pieces : goal.returns-then-best-pieces
returns-then-best-pieces c =
    let seats = c.args.seats.items in
    let left = c.pop.new.self.items in
    let last = c.unwrap-last.result in
    let key = c.self.inside.table.shared.key in
    let view = ap (λ (s : Seat). s.view) c.last.view_is in
    let w : c.gather-token.result.0.me.0 ≡ gathered left last.view = c.gather-token.ensures.view ∙ ap (gathered left) view in
    let whole : (gathered left last.view).weight ≡ key.workers =
    omega (arith, ap (λ (v : View). v.weight) w, c.gather-token.ensures.weight, c.last.invariant.0.weight, ap length (rw c.unwrap-last.ensures at c.pop.ensures.items), length-append left (last ∷ []), c.requires.all, ap (λ (b : Board). b.workers) c.self.view_is) in
    let end = c.close_with-closed.ensures.values.2 in
    let f = finishes _ _ end.0.words end.0.views _ seats left last (rw c.unwrap-last.ensures at c.pop.ensures.items) whole c.self.invariant.2 c.requires.done end.1.0 (end.1.1 ∙ ap some w) in
    let best : slice_index end.0.words 1 ≡ c.word-best.result = ap (λ ws. slice_index ws 1) end.2 ∙ index-is _ 1 _ c.word-best.ensures in
    let n : c.last.inside.pieces ≡ key.pieces = sym c.last.invariant.0.pieces ∙ (ap (λ (v : View). v.pieces) view ∙ (sym (gathered-pieces left last.view) ∙ f.pieces)) in
    let count : length (given_by seats) ≡ length c.gather-token.result.0.me.0.given = ap length f.given ∙ sym (ap (λ (v : View). length v.given) w) in
    let given = c.gather-token.ensures.given_up in
    let below : slice_index end.0.words 1 < key.pieces = (let t = c.if-best-pieces.true in omega arith) in
    record {
      pieces = subst (λ (b : Board). SharesOut b.pieces seats) c.self.view_is f.once;
      best = subst (λ b. IsLeastPiece (found_by seats) (Some b)) best (f.least below);
      skipped = subst (λ b. AllAbove (Some b) (skipped_by seats)) best (f.above below);
      given_up = ((λ h. let g = given.0 h in omega arith), (λ h. given.1 (omega arith)));
    }

pub returns-else-best-pieces : goal.returns-else-best-pieces
returns-else-best-pieces c =
    let seats = c.args.seats.items in
    let left = c.pop.new.self.items in
    let last = c.unwrap-last.result in
    let key = c.self.inside.table.shared.key in
    let view = ap (λ (s : Seat). s.view) c.last.view_is in
    let w : c.gather-token.result.0.me.0 ≡ gathered left last.view = c.gather-token.ensures.view ∙ ap (gathered left) view in
    let whole : (gathered left last.view).weight ≡ key.workers =
    omega (arith, ap (λ (v : View). v.weight) w, c.gather-token.ensures.weight, c.last.invariant.0.weight, ap length (rw c.unwrap-last.ensures at c.pop.ensures.items), length-append left (last ∷ []), c.requires.all, ap (λ (b : Board). b.workers) c.self.view_is) in
    let end = c.close_with-closed.ensures.values.2 in
    let f = finishes _ _ end.0.words end.0.views _ seats left last (rw c.unwrap-last.ensures at c.pop.ensures.items) whole c.self.invariant.2 c.requires.done end.1.0 (end.1.1 ∙ ap some w) in
    let best : slice_index end.0.words 1 ≡ c.word-best.result = ap (λ ws. slice_index ws 1) end.2 ∙ index-is _ 1 _ c.word-best.ensures in
    let n : c.last.inside.pieces ≡ key.pieces = sym c.last.invariant.0.pieces ∙ (ap (λ (v : View). v.pieces) view ∙ (sym (gathered-pieces left last.view) ∙ f.pieces)) in
    let count : length (given_by seats) ≡ length c.gather-token.result.0.me.0.given = ap length f.given ∙ sym (ap (λ (v : View). length v.given) w) in
    let given = c.gather-token.ensures.given_up in
    let above : key.pieces ≤ slice_index end.0.words 1 = (let t = c.if-best-pieces.false in omega arith) in
    record {
      pieces = subst (λ (b : Board). SharesOut b.pieces seats) c.self.view_is f.once;
      best = f.none_found above;
      skipped = f.none_skipped above;
      given_up = ((λ h. let g = given.0 h in omega arith), (λ h. given.1 (omega arith)));
    }

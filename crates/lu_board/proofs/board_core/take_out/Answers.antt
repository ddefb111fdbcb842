use Rattle.std.proofs.Common.{◌≡◌, ◌≢◌, ◌∙◌, sym, subst, rules, tests}
use Rattle.std.proofs.lemmas.Iterator.{IsFirst-from_position, YieldsList-from_slice}
use Rattle.lu_board.proofs.Counts.{Out, out}
use Rattle.lu_board.proofs.board_core.take_out.Goals as goal

pub returns-in_default : goal.returns-in_default
returns-in_default c =
    let xs = c.args.pieces.now.items in
    let p = c.args.piece in
    let first = IsFirst-from_position _ _ c.position.result (λ y. y ≡ p) (λ y. y ≢ p) c.position.ensures.ran (YieldsList-from_slice xs cc) (λ x q k. search (rules, tests)) (λ x q k. search (rules, tests)) in
    let told = subst (Out p xs) c.in_default.is (out p xs c.position.result first) in
    record { taken = sym told.0; left = told.1 }

pub returns : goal.returns
returns c =
    let xs = c.args.pieces.now.items in
    let p = c.args.piece in
    let first = IsFirst-from_position _ _ c.position.result (λ y. y ≡ p) (λ y. y ≢ p) c.position.ensures.ran (YieldsList-from_slice xs cc) (λ x q k. search (rules, tests)) (λ x q k. search (rules, tests)) in
    let told = subst (Out p xs) c.in-Some.is (out p xs c.position.result first) in
    record { taken = sym told.0; left = c.remove.ensures.items ∙ told.1 }

use Rattle.std.proofs.Common.{rules, cond, ap, sym, ◌≡◌, ◌∙◌, ℕ, subst, ◌%◌, ◌^◌, ◌+◌}
use mathlib.Core.Option.{none}
use Rattle.atomic_table.specs.Table.{step, Allows}
use Rattle.lu_board.specs.Seats.{Board}
use Rattle.lu_board.specs.Plays.{Claimed}
use Rattle.lu_board.proofs.Keeps.{Rule, claims}
use Rattle.lu_board.proofs.shared.Board.claim_as.Goals as goal

pub fetch_add-next-requires : goal.fetch_add-next-requires
fetch_add-next-requires g c =
    let told = c.seat.invariant.0 in
    let t = c.self.inside.table.shared in
    let n : t.key.pieces ≡ g.J.About.pieces = ap (λ (p : Board). p.pieces) c.self.view_is ∙ sym c.requires.pieces in
    let slots = t.table_id.slots in
    let me = c.seat.inside.token.me in
    let id = c.seat.inside.token.id in
    let step_ok = claims t.key.pieces t.key.workers slots id me (told.spent_is ∙ ap (λ b. cond b 1 0) c.if-seat.false) told.weight in
    (search rules, search rules, subst (λ (k : ℕ). Allows (Rule t.key.pieces t.key.workers) slots id me 0 (λ x. (x + 1) % 2 ^ 64) (Claimed k (step slots 0 1 0 none) me)) n step_ok)

use Rattle.std.proofs.Common.{rules, arith, cond, lt-ltb, le-ltb, ◌≤◌, ◌≡◌, ◌∙◌, ap, sym, subst, Some, None}
use Rattle.atomic_table.specs.Table.{step}
use mathlib.Core.Option.{none}
use Rattle.lu_board.specs.declared.view.Look.{Look}
use Rattle.lu_board.specs.declared.view.Look.TheVariants.{Skip, Go}
use Rattle.lu_board.specs.declared.view.View.{View}
use Rattle.lu_board.specs.Answer.{IsLookAnswer}
use Rattle.lu_board.specs.Seats.{Seat}
use Rattle.lu_board.specs.Events.{with_skipped, with_seen}
use Rattle.lu_board.specs.Plays.{Looked}
use Rattle.lu_board.proofs.Counts.{Has, contains-has}
use Rattle.lu_board.proofs.Keeps.{looks}
use Rattle.lu_board.proofs.shared.Board.look_as.Goals as goal
use Rattle.lu_board.proofs.shared.Board.look_as.Goals.{then-best-piece, else-best-piece+then-best-seat, else-best-piece+else-best-seat}

pub load-best-requires : goal.load-best-requires
load-best-requires g c =
    let held = subst (λ (h : Seat). Has h.view.held c.args.piece) (sym c.seat.view_is) (contains-has _ _ c.requires.held) in
    let named = subst (λ i. Has c.seat.inside.token.me.0.held i) (sym c.requires.piece) held in
    (search rules, search rules, looks _ _ _ _ _ _ named c.seat.invariant.0.weight)

pub returns-clause-answer : goal.returns-clause-answer
returns-clause-answer g c =
    let found = c.load-best.result in
    let m = c.seat.inside.token.me in
    let w = c.load-best.new.seat.me in
    let slots = c.self.inside.table.shared.table_id.slots in
    let p = subst (λ i. Looked i (step slots 1 0 0 none) m found w) c.requires.piece c.load-best.ensures.2 in
    let view = ap (λ (h : Seat). h.view) c.seat.view_is in
    let told = c.seat.invariant.0.pieces in
    let give : (l : Look) → c.if-best-piece.result ≡ l → IsLookAnswer c.args.piece l m.0 w.0 → IsLookAnswer c.args.piece c.if-best-piece.result c.args.seat.now.view w.0 =
    λ l is a. subst (λ (z : Look × View). IsLookAnswer c.args.piece z.0 z.1 w.0) (λ j. (sym is j, view j)) a in
    let on = λ (above : c.args.piece ≤ found). p.0 ∙ ap (λ b. cond b (with_skipped c.args.piece found m.0) (with_seen found m.0)) (le-ltb found c.args.piece above) in
    elim c.if-best-piece.branch [
      | then-best-piece w ↦ give (Skip found) w.result-is (w.if-best-piece.true, p.1, p.0 ∙ ap (λ b. cond b (with_skipped c.args.piece found m.0) (with_seen found m.0)) (lt-ltb found c.args.piece w.if-best-piece.true))
      | else-best-piece+then-best-seat w ↦ give (Go (Some found)) w.result-is (w.if-best-piece.false, p.1, on w.if-best-piece.false, (let x = w.if-best-seat.true in omega arith))
      | else-best-piece+else-best-seat w ↦
          let whole : found ≡ m.0.pieces = (let a = p.2 in let b = w.if-best-seat.false in omega arith) in
          give (Go None) w.result-is (let x = w.if-best-piece.false in omega arith, let y = p.1 in omega arith, on w.if-best-piece.false ∙ ap (λ b. with_seen b m.0) whole, tt)
    ]

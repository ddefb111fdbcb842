use Rattle.std.proofs.Common.{◌≡◌, ◌∙◌, ap, sym}
use Rattle.lu_board.specs.declared.view.View.{View}
use Rattle.lu_board.specs.declared.view.Kind.TheVariants.{GivenUp}
use Rattle.lu_board.specs.Events.{with_held, with_settled, with_spent}
use Rattle.lu_witness.specs.Witnesses.{IsMember}
use Rattle.lu_parallel.specs.Works.{found_pieces}
use Rattle.lu_parallel.proofs.Tallies.{holds_empty, no_pieces, without_one}
use Rattle.lu_parallel.proofs.worker.give_up_all.Goals as goal

pub loop-piece-init : goal.loop-piece-init
loop-piece-init g c =
    let none = no_pieces c.args.seat.view c.requires.fresh.2 in
    record { board = c.requires.fresh.0; held = none.0; clean = none.1; found = none.2 }

pub loop-piece-preserved : goal.loop-piece-preserved
loop-piece-preserved g c =
    let i = c.loop-piece.invariant in
    let was = c.loop-piece.seat.view in
    let piece = c.in-Some.piece in
    let settled : c.settle.new.seat.view ≡ with_settled piece GivenUp (with_held piece was) = c.settle.ensures.settled ∙ ap (with_settled piece GivenUp) c.in-Some.ensures.held in
    record {
      board = c.settle.ensures.board ∙ c.claim.ensures.board ∙ i.board;
      held = ap (λ (v : View). v.held) settled ∙ without_one piece was.held i.held;
      clean = ap (λ (v : View). v.clean) settled ∙ i.clean;
      found = ap (λ (v : View). v.found) settled ∙ i.found;
    }

pub returns : goal.returns
returns g c = λ members.
    (let i = c.loop-piece.invariant in
    let was = c.loop-piece.seat.view in
    let spent : c.claim.new.seat.view ≡ with_spent was = c.in_default.ensures.none in
    let found = ap (λ (v : View). v.found) spent ∙ i.found in
    record {
      over = record {
        board_is = c.claim.ensures.board ∙ i.board;
        done = (ap (λ (v : View). v.spent) spent, ap (λ (v : View). v.held) spent ∙ i.held);
        listed = ap found_pieces c.new.ensures.items ∙ sym found;
      };
      holds = λ s is. holds_empty (IsMember members) s c.args.job.now.space.bound c.args.job.now.pieces.now c.claim.new.seat.view c.new.result.items (ap (λ (v : View). v.clean) spent ∙ i.clean) found c.new.ensures.items;
    })

use Rattle.std.proofs.Common.{rules, ◌≡◌, ◌∙◌, sym, ap, subst}
use Rattle.lu_board.specs.declared.view.View.{View}
use Rattle.lu_board.specs.Events.{with_held, with_spent}
use Rattle.lu_board.specs.Pieces.{without_first}
use Rattle.lu_witness.specs.Witnesses.{IsMember}
use Rattle.lu_parallel.specs.Works.{IsTally}
use Rattle.lu_parallel.proofs.Tallies.{holds_nothing, holds_same, no_pieces, without_one}
use Rattle.lu_machine.proofs.Starting.{start_there}
use Rattle.lu_parallel.proofs.worker.work.Goals as goal

pub returns-in_default : goal.returns-in_default
returns-in_default g c = c.give_up_all.ensures (g.T.SerialTree.members c.args.tree.now)

pub loop-piece-init : goal.loop-piece-init
loop-piece-init g c =
    let empty = c.requires.fresh.2 in
    record {
      tree = search rules;
      over = search rules;
      serves = search rules;
      board = c.requires.fresh.0;
      held = (no_pieces c.args.seat.view empty).0;
      holds = λ s is. holds_nothing (IsMember (g.T.SerialTree.members c.args.tree.now)) s c.args.bound c.args.pieces.now c.args.seat.view c.new-worker.result.counts c.new-worker.result.found.items empty c.new-worker.ensures.counts c.new-worker.ensures.found;
    }

pub loop-piece-preserved : goal.loop-piece-preserved
loop-piece-preserved g c =
    let i = c.loop-piece.invariant in
    let was = c.loop-piece.seat.view in
    let piece = c.in-Some.piece in
    let claimed : c.claim.new.seat.view ≡ with_held piece was = c.in-Some.ensures.held in
    let away = c.serve-seat.ensures.away in
    record {
      tree = c.serve-seat.ensures.cache.tree_is ∙ i.tree;
      over = c.serve-seat.ensures.tree ∙ i.over;
      serves = c.serve-seat.ensures.searcher;
      board = c.serve-seat.ensures.board ∙ c.claim.ensures.board ∙ i.board;
      held = away.held ∙ ap (λ (v : View). without_first piece v.held) claimed ∙ without_one piece was.held i.held;
      holds = λ s is.
          (let members = ap (λ x. g.T.SerialTree.members x) i.tree in
          let claimed_holds = holds_same (IsMember (g.T.SerialTree.members c.args.tree.now)) s c.args.bound c.args.pieces.now was c.claim.new.seat.view c.loop-piece.worker.counts c.loop-piece.worker.found.items
          (ap (λ (v : View). v.clean) claimed) (ap (λ (v : View). v.found) claimed) (i.holds s is) in
          let there = subst (λ x. IsTally (IsMember x) s c.args.bound c.args.pieces.now c.claim.new.seat.view c.loop-piece.worker.counts c.loop-piece.worker.found.items) (sym members) claimed_holds in
          subst (λ x. IsTally (IsMember x) s c.args.bound c.args.pieces.now c.serve-seat.result.view c.serve-seat.new.self.counts c.serve-seat.new.self.found.items) members (c.serve-seat.ensures.holds s is there));
    }

pub returns : goal.returns
returns g c =
    let i = c.loop-piece.invariant in
    let was = c.loop-piece.seat.view in
    let there = start_there c.args.component.now c.args.matrix.now c.requires.of.settles in
    let start = there.0 in
    let spent : c.claim.new.seat.view ≡ with_spent was = c.in_default-claim.ensures.none in
    record {
      over = record {
        board_is = c.claim.ensures.board ∙ i.board;
        done = (ap (λ (v : View). v.spent) spent, ap (λ (v : View). v.held) spent ∙ i.held);
        listed = (i.holds start there.1).listed ∙ sym (ap (λ (v : View). v.found) spent);
      };
      holds = λ s is. holds_same (IsMember (g.T.SerialTree.members c.args.tree.now)) s c.args.bound c.args.pieces.now was c.claim.new.seat.view c.loop-piece.worker.counts c.loop-piece.worker.found.items
          (ap (λ (v : View). v.clean) spent) (ap (λ (v : View). v.found) spent) (i.holds s is);
    }

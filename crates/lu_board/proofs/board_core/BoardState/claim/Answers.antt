use Rattle.std.proofs.Common.{arith, ◌<◌, length, ◌∙◌, sym, ap, subst, true, eqb, ltb, lt-ltb, set, ◌+◌}
use Rattle.lu_board.specs.declared.view.View.{View}
use Rattle.lu_board.specs.declared.board_core.CoreEvent.TheVariants.{Claim}
use Rattle.lu_board.specs.Core.{CoreState, StepsIfLegal}
use Rattle.lu_board.specs.Events.{after_claim}
use Rattle.lu_board.specs.Views.{blank}
use Rattle.lu_board.proofs.Counts.{get-else}
use Rattle.lu_board.proofs.Core.{and-true}
use Rattle.lu_board.proofs.board_core.BoardState.claim.Goals as goal

pub returns : goal.returns
returns c =
    let m = c.self.inside in
    let w = c.args.w in
    let v = c.index_mut.result.now in
    let e = c.in_ok-claim.ensures in
    let ok = c.if-not-branch.false in
    let within : w < length m.workers.items = omega arith in
    let at = c.index_mut.ensures.value ∙ sym (get-else m.workers.items w v blank within) in
    let then : CoreState = record { pieces = m.pieces; bad = m.bad.items; next = m.next + 1; best = m.best; views = set m.workers.items w c.claim.new.self } in
    subst (λ (x : CoreState). StepsIfLegal (Claim w) x true then) c.self.view_is (
      and-true (ltb w (length m.workers.items)) _ (lt-ltb w _ within) (ap (λ (u : View). eqb u.spent 0) (sym at) ∙ sym e.legal ∙ ok),
      λ _. let is = e.after ok ∙ ap (after_claim m.pieces m.next) at in
          (λ j. record { pieces = m.pieces; bad = m.bad.items; next = m.next + 1; best = m.best; views = set m.workers.items w (is j) }),
    )

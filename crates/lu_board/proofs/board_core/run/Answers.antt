use Rattle.std.proofs.Common.{◌≡◌, List, ℕ, length, take, get_or, refl, ◌∙◌, sym, ap, subst, true}
use Rattle.std.proofs.lemmas.List.{take_more, length-replicate}
use Rattle.lu_board.specs.declared.board_core.CoreEvent.{CoreEvent}
use Rattle.lu_board.specs.declared.board_core.CoreEvent.TheVariants.{Claim}
use Rattle.lu_board.specs.Views.{newcomer}
use Rattle.lu_board.specs.Fit.{FitsBoard}
use Rattle.lu_board.specs.Core.{CoreState, CoreInvariant, start, after_event, is_legal, after_events, all_legal}
use Rattle.lu_board.proofs.Core.{begins, next-small, keeps-one, after_events-push, all_legal-push, after_event-size}
use Rattle.lu_board.proofs.board_core.run.Goals as goal

pub loop-index-init : goal.loop-index-init
loop-index-init c =
    let is = c.in_ok-state.ensures in
    record {
      kept = subst CoreInvariant (sym is) (begins _ _ _ c.requires.pieces.0 c.requires.pieces.1 c.requires.workers.0 c.requires.workers.1);
      size = (ap (λ (m : CoreState). m.pieces) is, ap (λ (m : CoreState). length m.views) is ∙ length-replicate c.args.workers (newcomer c.args.pieces 1));
      legal = refl;
      state = is;
    }

pub step-requires : goal.step-requires
step-requires c = next-small _ c.loop-index.invariant.kept

pub loop-index-preserved : goal.loop-index-preserved
loop-index-preserved c =
    let i = c.loop-index.invariant in
    let made = c.in_ok-step.ensures in
    let ok = c.if-not-branch.false in
    let events = c.args.events.now in
    let e = get_or events c.loop-index.index (Claim 0) in
    let begin = start c.args.pieces c.args.workers c.args.bad.now in
    let before = take c.loop-index.index events in
    let state = c.loop-index.state in
    let is = made.1 ok in
    let fine : is_legal state e ≡ true = sym made.0 ∙ ok in
    let more = take_more events c.loop-index.index (Claim 0) c.loop-index-test.true in
    let fine' : is_legal (after_events before begin) e ≡ true = ap (λ (m : CoreState). is_legal m e) (sym i.state) ∙ fine in
    let size = after_event-size state e in
    record {
      kept = subst CoreInvariant (sym is) (keeps-one state e i.kept fine);
      size = (ap (λ (m : CoreState). m.pieces) is ∙ size.0 ∙ i.size.0, ap (λ (m : CoreState). length m.views) is ∙ size.1 ∙ i.size.1);
      legal = subst (λ (l : List CoreEvent). all_legal l begin ≡ true) (sym more) (all_legal-push before e begin i.legal fine');
      state = is ∙ ap (λ (m : CoreState). after_event m e) i.state ∙ sym (after_events-push before e begin) ∙ ap (λ (l : List CoreEvent). after_events l begin) (sym more);
    }

pub returns-clause-fits : goal.returns-clause-fits
returns-clause-fits c =
    let i = c.loop-index.invariant in
    let m = c.loop-index.state in
    subst (λ (z : ℕ × ℕ). FitsBoard z.0 z.1 m.next m.best m.views) (λ j. (i.size.0 j, i.size.1 j)) i.kept.fits

-- What holds in the states that legal events reach.
use Rattle.std.proofs.Common.{arith, ◌≡◌, ℕ, Bool, true, false, List, [], ◌∷◌, length, Some, None, refl, sym, ap, ◌∙◌, subst, All, if◌then◌else◌, nat_lt}
use Rattle.std.proofs.lemmas.Bool.Decides.{nat_tests}
use Rattle.std.proofs.lemmas.List.{length-replicate}
use Rattle.lu_board.specs.declared.board_core.CoreEvent.{CoreEvent}
use Rattle.lu_board.specs.declared.board_core.CoreEvent.TheVariants.{Claim, Look, Lower, Settle}
use Rattle.lu_board.specs.Views.{newcomer}
use Rattle.lu_board.specs.Fit.{FitsBoard}
use Rattle.lu_board.specs.Core.{CoreState, CoreInvariant, AgreesWith, AllDone, IsLeastBad, after_event, after_events, all_legal, best_piece, given_in, is_legal, start}
use Rattle.lu_board.specs.Laws.{IsReached}
use Rattle.lu_board.proofs.Core.{after_event-size, begins, both, bounds, is_one, keeps-one, none_bad}

keeps-all : (es : List CoreEvent) (m : CoreState) → CoreInvariant m → all_legal es m ≡ true → CoreInvariant (after_events es m)
keeps-all [] m kept legal = kept
keeps-all (e ∷ es) m kept legal = let p = both (is_legal m e) (all_legal es (after_event m e)) legal in keeps-all es (after_event m e) (keeps-one m e kept p.0) p.1

bad-event : (m : CoreState) (e : CoreEvent) → (after_event m e).bad ≡ m.bad
bad-event m (Claim w) = refl
bad-event m (Look w i) = refl
bad-event m (Lower w i) = refl
bad-event m (Settle w i kind) = refl

-- the same pieces, as many views, and the same bad ones
stays : (es : List CoreEvent) (m : CoreState) → ((after_events es m).pieces ≡ m.pieces) × (length (after_events es m).views ≡ length m.views) × ((after_events es m).bad ≡ m.bad)
stays [] m = (refl, refl, refl)
stays (e ∷ es) m =
    let rest = stays es (after_event m e) in
    let size = after_event-size m e in
    (rest.0 ∙ size.0, rest.1 ∙ size.1, rest.2 ∙ bad-event m e)

module _ (n workers : ℕ) (bad : List Bool) (m : CoreState) (r : IsReached n workers bad m) where
  kept : CoreInvariant m
  kept = subst CoreInvariant (sym r.state) (keeps-all r.events (start n workers bad) (begins n workers bad r.covers.0 r.covers.1 r.within.0 r.within.1) r.legal)

  same : (m.pieces ≡ n) × (length m.views ≡ workers) × (m.bad ≡ bad)
  same =
      let s = stays r.events (start n workers bad) in
      (ap (λ (x : CoreState). x.pieces) r.state ∙ s.0, ap (λ (x : CoreState). length x.views) r.state ∙ (s.1 ∙ length-replicate workers (newcomer n 1)), ap (λ (x : CoreState). x.bad) r.state ∙ s.2)

  pub reached_fits : FitsBoard n workers m.next m.best m.views × All (AgreesWith bad) m.views
  reached_fits = (
    subst (λ x. FitsBoard n x m.next m.best m.views) same.1 (subst (λ x. FitsBoard x (length m.views) m.next m.best m.views) same.0 kept.fits),
    subst (λ x. All (AgreesWith x) m.views) same.2 kept.each,
  )

  pub reached_least : AllDone m.views → given_in m.views ≡ [] → IsLeastBad bad (best_piece m)
  reached_least done none_given = subst (λ x. IsLeastBad x (best_piece m)) same.2 (at (nat_lt m.best m.pieces) refl)
    where
      at : (b : Bool) → nat_lt m.best m.pieces ≡ b → IsLeastBad m.bad (if b then Some m.best else None)
      at true e = (is_one m kept (grind (arith, nat_tests)), bounds m kept done none_given)
      at false e = none_bad m kept done none_given (grind (arith, nat_tests))

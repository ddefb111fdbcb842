-- The moves of a piece, made one after another.
use Rattle.std.proofs.Common.{◌≡◌, ℕ, ◌+◌, ◌<◌, ◌≤◌, List, [], ◌∷◌, ◌++◌, length, drop, get_or, Option, refl, sym, subst}
use Rattle.std.proofs.lemmas.List.{drop_more, drop_all}
use Rattle.lu_test.specs.declared.schedule.Move.{Move}
use Rattle.lu_machine.specs.declared.event.Event.{Event}
use Rattle.lu_machine.specs.States.{State}
use Rattle.lu_machine.specs.Steps.{Step, IsFeasible}
use Rattle.lu_machine.specs.Runs.{Leads, with_event}
use Rattle.lu_machine.specs.Schedules.{IsSchedule}
use Rattle.lu_machine.proofs.StepLaws.{step_same, step_feasible}
use Rattle.lu_pieces.specs.Pieces.{AreKids, HasKids, deepened}

module _ (s : State) (p : List Move) (i : ℕ) (d : Move) (within : i < length p) where
  parts : drop i p ≡ get_or p i d ∷ drop (i + 1) p
  parts = drop_more p i d within

  pub next_feasible : IsSchedule s (drop i p) → IsFeasible s (get_or p i d)
  next_feasible r =
      let leads : Leads s (get_or p i d ∷ drop (i + 1) p) r.end r.history = subst (λ u. Leads s u r.end r.history) parts r.leads in
      step_feasible s (get_or p i d) leads.0 leads.1 leads.3

  pub next_schedule : IsSchedule s (drop i p) → (next : State) (event : Option Event) → Step s (get_or p i d) next event → IsSchedule next (drop (i + 1) p)
  next_schedule r next event step =
      let leads : Leads s (get_or p i d ∷ drop (i + 1) p) r.end r.history = subst (λ u. Leads s u r.end r.history) parts r.leads in
      let same = step_same s (get_or p i d) leads.0 next leads.1 event leads.3 step in
      record { end = r.end; history = leads.2; leads = subst (λ x. Leads x (drop (i + 1) p) r.end leads.2) same.0 leads.4; holds = tt }

  pub kids_before : (next : State) (event : Option Event) → Step s (get_or p i d) next event → (kids : List (List Move)) → AreKids next p (drop (i + 1) p) kids → AreKids s p (drop i p) kids
  kids_before next event step kids k =
      let leads : Leads s (get_or p i d ∷ drop (i + 1) p) k.0 (with_event event k.1) = (next, event, k.1, step, k.3, refl) in
      (k.0, with_event event k.1, k.2, subst (λ u. Leads s u k.0 (with_event event k.1)) (sym parts) leads, k.4, k.5)

-- where all moves are made
pub kids_here : (s : State) (p : List Move) (i : ℕ) → length p ≤ i → (before after : List (List Move)) → HasKids s p before after → (kids : List (List Move)) × (after ≡ before ++ kids) × AreKids s p (drop i p) kids
kids_here s p i all before after k =
    let none : drop i p ≡ [] = drop_all i p all in
    let leads : Leads s [] s [] = (refl, refl) in
    (deepened p k.0, k.1, (s, [], k.0, subst (λ u. Leads s u s []) (sym none) leads, k.2, refl))

-- The schedules that begin with u, at the state to which u leads.
use Rattle.std.proofs.Common.{◌≡◌, ◌+◌, ◌<◌, ◌⊎◌, List, [], ◌∷◌, ◌++◌, length, sym, ◌∙◌, ap, subst, inl, inr, arith, append_assoc, length-append}
use Rattle.std.proofs.lemmas.List.{append-nil}
use Rattle.lu_test.specs.declared.schedule.Move.{Move}
use Rattle.lu_machine.specs.declared.event.Event.{Event}
use Rattle.lu_machine.specs.States.{State}
use Rattle.lu_machine.specs.Steps.{IsFeasible, picks_of}
use Rattle.lu_machine.specs.Runs.{Leads}
use Rattle.lu_machine.specs.Ends.{HasMove, HasNoMove, IsEnded}
use Rattle.lu_machine.specs.Schedules.{BeginsWith, IsSchedule, Reaches}
use Rattle.lu_machine.proofs.Ended.{complete_no_move}
use Rattle.lu_machine.proofs.Paths.{leads_same, leads_split}
use Rattle.lu_machine.proofs.StepLaws.{step_feasible}

pub begins_itself : (u : List Move) → BeginsWith u u
begins_itself u = ([], sym (append-nil u))

pub begins_shorter : (v u : List Move) (m : Move) → BeginsWith v (u ++ m ∷ []) → BeginsWith v u
begins_shorter v u m b = (m ∷ b.0, b.1 ∙ append_assoc u (m ∷ []) b.0)

pub begins_longer : (v u : List Move) (m : Move) → BeginsWith v (u ++ m ∷ []) → length u < length v
begins_longer v u m b =
    let e : length v ≡ length ((u ++ m ∷ []) ++ b.0) = ap length b.1 in
    let f : length ((u ++ m ∷ []) ++ b.0) ≡ length (u ++ m ∷ []) + length b.0 = length-append (u ++ m ∷ []) b.0 in
    let g : length (u ++ m ∷ []) ≡ length u + 1 = length-append u (m ∷ []) in
    omega arith

pub no_move : (s : State) (m : Move) → HasNoMove s → IsFeasible s m → ⊥
no_move s m none f = let e : picks_of s m.thread ≡ 0 = none m.thread in omega arith

pub ended_no_move : (s : State) → IsEnded s → HasNoMove s
ended_no_move s (inl complete) = complete_no_move s complete
ended_no_move s (inr stuck) = stuck.1

pub not_both : (s : State) → HasMove s → HasNoMove s → ⊥
not_both s some none = let e : picks_of s some.0 ≡ 0 = none some.0 in let h : 0 < picks_of s some.0 = some.1 in omega arith

module _ (start : State) (u : List Move) (s : State) (h : List Event) (at : Leads start u s h) where
  here_rest : (P : State → List Event → Type 0) (v rest : List Move) → v ≡ u ++ rest → (end : State) (k history : List Event) → Leads s rest end k → history ≡ h ++ k → P end history → ((v ≡ u) × P s h) ⊎ ((m : Move) × IsFeasible s m × BeginsWith v (u ++ m ∷ []))
  here_rest P v [] e end k history p f holds =
      let is : history ≡ h = f ∙ (ap (λ x. h ++ x) p.1 ∙ append-nil h) in
      inl (e ∙ append-nil u, subst (P s) is (subst (λ x. P x history) p.0 holds))
  here_rest P v (m ∷ w) e end k history p f holds =
      inr (m, step_feasible s m p.0 p.1 p.3, (w, e ∙ sym (append_assoc u (m ∷ []) w)))

  -- a schedule that begins with u is u itself, or goes on by a feasible move
  pub here : (P : State → List Event → Type 0) (v : List Move) → BeginsWith v u → Reaches start v P → ((v ≡ u) × P s h) ⊎ ((m : Move) × IsFeasible s m × BeginsWith v (u ++ m ∷ []))
  here P v b r =
      let leads : Leads start (u ++ b.0) r.end r.history = subst (λ x. Leads start x r.end r.history) b.1 r.leads in
      let split = leads_split start u b.0 r.end r.history leads in
      let same = leads_same start u split.mid s split.first h split.begins at in
      let on : Leads s b.0 r.end split.second = subst (λ x. Leads x b.0 r.end split.second) same.0 split.goes_on in
      here_rest P v b.0 b.1 r.end split.second r.history on (split.whole ∙ ap (λ x. x ++ split.second) same.1) r.holds

  pub reaches_here : (P : State → List Event → Type 0) → P s h → Reaches start u P
  reaches_here P holds = record { end = s; history = h; leads = at; holds = holds }

  -- what holds where u leads
  pub at_here : (P : State → List Event → Type 0) → Reaches start u P → P s h
  at_here P r =
      let same = leads_same start u r.end s r.history h r.leads at in
      subst (P s) same.1 (subst (λ x. P x r.history) same.0 r.holds)

-- no ended schedule is a beginning of another
pub ended_alone : (s : State) (p q : List Move) → Reaches s p (λ end _. IsEnded end) → IsSchedule s q → BeginsWith q p → q ≡ p
ended_alone s p q ended schedule b =
    elim (here s p ended.end ended.history ended.leads (λ _ _. Unit {0}) q b schedule) [
      | inl e ↦ e.0
      | inr m ↦ absurd (no_move ended.end m.0 (ended_no_move ended.end ended.holds) m.1)
    ]

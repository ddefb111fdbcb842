-- Where schedules lead: one after another, and never to two ends.
use Rattle.std.proofs.Common.{◌≡◌, ℕ, ◌<◌, List, [], ◌∷◌, ◌++◌, ◌+◌, length, take, drop, get_or, subst, Option, Some, None, refl, sym, ◌∙◌, ap}
use Rattle.std.proofs.lemmas.List.{take-append-drop, drop_more}
use Rattle.lu_test.specs.declared.schedule.Move.{Move}
use Rattle.lu_machine.specs.declared.event.Event.{Event}
use Rattle.lu_machine.specs.States.{State}
use Rattle.lu_machine.specs.Steps.{Step, IsFeasible}
use Rattle.lu_machine.specs.Runs.{Leads, with_event}
use Rattle.lu_machine.proofs.StepLaws.{step_same, step_feasible}

pub with_event-append : (e : Option Event) (h k : List Event) → with_event e h ++ k ≡ with_event e (h ++ k)
with_event-append None h k = refl
with_event-append (Some e) h k = refl

-- a schedule leads to one state, with one history
pub leads_same : (s : State) (u : List Move) (a b : State) (h k : List Event) → Leads s u a h → Leads s u b k → (a ≡ b) × (h ≡ k)
leads_same s [] a b h k p q = (p.0 ∙ sym q.0, p.1 ∙ sym q.1)
leads_same s (m ∷ u) a b h k p q =
    let same = step_same s m q.0 p.0 q.1 p.1 q.3 p.3 in
    let q' : Leads p.0 u b q.2 = rw (← same.0) q.4 in
    let rest = leads_same p.0 u a b p.2 q.2 p.4 q' in
    (rest.0, (let e = same.1 in let f = rest.1 in let x = p.5 in let y = q.5 in cc))

-- one schedule after another
pub leads_on : (s : State) (u v : List Move) (mid end : State) (h k : List Event) → Leads s u mid h → Leads mid v end k → Leads s (u ++ v) end (h ++ k)
leads_on s [] v mid end h k p q = rw (← p.0, p.1) q
leads_on s (m ∷ u) v mid end h k p q =
    (p.0, p.1, p.2 ++ k, p.3, leads_on p.0 u v mid end p.2 k p.4 q, ap (λ x. x ++ k) p.5 ∙ with_event-append p.1 p.2 k)

-- and back
pub record Split (s : State) (u v : List Move) (end : State) (history : List Event) : Type 0 where
  pub mid : State
  pub first : List Event
  pub second : List Event
  pub begins : Leads s u mid first
  pub goes_on : Leads mid v end second
  pub whole : history ≡ first ++ second

pub leads_split : (s : State) (u v : List Move) (end : State) (history : List Event) → Leads s (u ++ v) end history → Split s u v end history
leads_split s [] v end history p = record { mid = s; first = []; second = history; begins = (refl, refl); goes_on = p; whole = refl }
leads_split s (m ∷ u) v end history p =
    let rest = leads_split p.0 u v end p.2 p.4 in
    record {
      mid = rest.mid;
      first = with_event p.1 rest.first;
      second = rest.second;
      begins = (p.0, p.1, rest.first, p.3, rest.begins, refl);
      goes_on = rest.goes_on;
      whole = p.5 ∙ (ap (with_event p.1) rest.whole ∙ sym (with_event-append p.1 rest.first rest.second));
    }

-- a beginning of a schedule goes on by a feasible move
pub goes_on_feasible : (s : State) (u : List Move) (end : State) (history : List Event) → Leads s u end history → (i : ℕ) (d : Move) → i < length u → (mid : State) (k : List Event) → Leads s (take i u) mid k → IsFeasible mid (get_or u i d)
goes_on_feasible s u end history leads i d within mid k first =
    let parts : take i u ++ (get_or u i d ∷ drop (i + 1) u) ≡ u = rw (← drop_more u i d within) (take-append-drop i u) in
    let split = leads_split s (take i u) (get_or u i d ∷ drop (i + 1) u) end history (rw parts leads) in
    let same = leads_same s (take i u) split.mid mid split.first k split.begins first in
    let on = split.goes_on in
    let f : IsFeasible split.mid (get_or u i d) = step_feasible split.mid (get_or u i d) on.0 on.1 on.3 in
    subst (λ x. IsFeasible x (get_or u i d)) same.0 f

-- to the node of a child
pub child_leads : (start : State) (u : List Move) (s : State) (h : List Event) → Leads start u s h → (m : Move) (next : State) (event : Option Event) → Step s m next event → Leads start (u ++ m ∷ []) next (h ++ with_event event [])
child_leads start u s h at m next event step =
    leads_on start u (m ∷ []) s next h (with_event event []) at (next, event, [], step, (refl, refl), refl)

-- the same, where the machine and the path are known by equations
pub child_led : (now s : State) → now ≡ s → (k h : List Event) → k ≡ h → (start : State) (u : List Move) → Leads start u s h → (m : Move) (next : State) (event : Option Event) → Step now m next event → (path : List Move) (history : List Event) → path ≡ u ++ m ∷ [] → history ≡ k ++ with_event event [] → Leads start path next history
child_led now s e k h f start u at m next event step path history is grown =
    let step' : Step s m next event = subst (λ x. Step x m next event) e step in
    rw (is, grown, f) (child_leads start u s h at m next event step')

-- Schedules whose moves all go first, as they grow; and states that are alike.
use Rattle.std.proofs.Common.{◌≡◌, ℕ, List, [], ◌∷◌, ◌++◌, Option, None, Some, slice_get, refl, sym, subst}
use Rattle.lu_test.specs.declared.schedule.Move.{Move}
use Rattle.lu_machine.specs.declared.event.Event.{Event}
use Rattle.lu_machine.specs.declared.thread.Activity.{Activity}
use Rattle.lu_machine.specs.declared.thread.Activity.TheVariants.{Idle, Open}
use Rattle.lu_machine.specs.declared.thread.Thread.{Thread}
use Rattle.lu_machine.specs.Changes.{at_work}
use Rattle.lu_machine.specs.Runs.{Leads}
use Rattle.lu_machine.specs.States.{State}
use Rattle.lu_machine.proofs.StepLaws.{step_same}
use Rattle.lu_horizon.specs.Alike as by
use Rattle.lu_graph.specs.First.{AllGoFirst, GoesFirst, IsAside, StandsAside}
use Rattle.lu_graph.specs.Nodes.{AreStatesAlike, NotDead}

-- ---- one move more

pub first_more : (s : State) (u : List Move) (end : State) (h : List Event) (m : Move) → AllGoFirst s u → Leads s u end h → GoesFirst end m → AllGoFirst s (u ++ m ∷ [])
first_more s [] end h m all leads first = (subst (λ x. GoesFirst x m) leads.0 first, λ next event step. tt)
first_more s (x ∷ u) end h m all leads first = (
  all.0,
  λ next event step.
      (let same = step_same s x leads.0 next leads.1 event leads.3 step in
      subst (λ z. AllGoFirst z (u ++ m ∷ [])) same.0 (first_more leads.0 u end leads.2 m (all.1 leads.0 leads.1 leads.3) leads.4 first)),
)

-- those before the last, and the last
pub first_before : (s : State) (u : List Move) (m : Move) → AllGoFirst s (u ++ m ∷ []) → AllGoFirst s u
first_before s [] m all = tt
first_before s (x ∷ u) m all = (all.0, λ next event step. first_before next u m (all.1 next event step))

pub first_last : (s : State) (u : List Move) (m : Move) (mid : State) (h : List Event) → AllGoFirst s (u ++ m ∷ []) → Leads s u mid h → GoesFirst mid m
first_last s [] m mid h all leads = subst (λ x. GoesFirst x m) (sym leads.0) all.0
first_last s (x ∷ u) m mid h all leads = first_last leads.0 u m mid leads.2 (all.1 leads.0 leads.1 leads.3) leads.4

-- ---- states that are alike

module _ (s r : State) (alike : AreStatesAlike s r) where
  -- a thread that is aside in the one is so in the other
  aside_there : (t : ℕ) (is : IsAside s t) (o : Option Thread) → slice_get r.threads t ≡ o → by.AreStandingAlike (NotDead s.component) (Some (at_work is.done is.frame)) o → IsAside r t
  aside_there t is None stands h = absurd h
  aside_there t is (Some b) stands h = with_activity b.done b.activity stands h
    where
      with_activity : (k : ℕ) (a : Activity) → slice_get r.threads t ≡ Some (record { done = k; activity = a }) → (k ≡ is.done) × by.AreActivitiesAlike (NotDead s.component) (Open is.frame) a → IsAside r t
      with_activity k Idle stands h = absurd h.1
      with_activity k (Open g) stands h = record { done = k; frame = g; stands = stands; instr = is.instr; at = rw (alike.component, h.1.op, h.1.place) is.at; aside = subst (λ c. StandsAside c is.instr) (sym alike.component) is.aside }

  aside_on : (t : ℕ) → IsAside s t → IsAside r t
  aside_on t is = aside_there t is (slice_get r.threads t) refl (subst (λ o. by.AreStandingAlike (NotDead s.component) o (slice_get r.threads t)) is.stands (alike.threads t))

  aside_here : (t : ℕ) (is : IsAside r t) (o : Option Thread) → slice_get s.threads t ≡ o → by.AreStandingAlike (NotDead s.component) o (Some (at_work is.done is.frame)) → IsAside s t
  aside_here t is None stands h = absurd h
  aside_here t is (Some b) stands h = with_activity b.done b.activity stands h
    where
      with_activity : (k : ℕ) (a : Activity) → slice_get s.threads t ≡ Some (record { done = k; activity = a }) → (is.done ≡ k) × by.AreActivitiesAlike (NotDead s.component) a (Open is.frame) → IsAside s t
      with_activity k Idle stands h = absurd h.1
      with_activity k (Open g) stands h = record { done = k; frame = g; stands = stands; instr = is.instr; at = rw (← alike.component, ← h.1.op, ← h.1.place) is.at; aside = subst (λ c. StandsAside c is.instr) alike.component is.aside }

  aside_back : (t : ℕ) → IsAside r t → IsAside s t
  aside_back t is = aside_here t is (slice_get s.threads t) refl (subst (λ o. by.AreStandingAlike (NotDead s.component) (slice_get s.threads t) o) is.stands (alike.threads t))

  pub first_alike : (m : Move) → GoesFirst s m → GoesFirst r m
  first_alike m first t is = first t (record { aside = aside_back t is.aside; first = λ u lt x. is.first u lt (aside_on u x) })

  pub first_back : (m : Move) → GoesFirst r m → GoesFirst s m
  first_back m first t is = first t (record { aside = aside_on t is.aside; first = λ u lt x. is.first u lt (aside_back u x) })

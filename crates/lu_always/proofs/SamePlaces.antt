-- States whose threads are at the same places of the same operations take the same steps.
use Rattle.std.proofs.Common.{◌≡◌, ℕ, List, [], ◌∷◌, Option, None, Some, slice_get, refl, sym, ◌∙◌, subst}
use Rattle.std.specs.Option.{option_map}
use Rattle.lu_component.specs.Component.{Component}
use Rattle.lu_test.specs.declared.matrix.Call.{Call as ACall}
use Rattle.lu_test.specs.declared.schedule.Move.{Move}
use Rattle.lu_test.specs.Matrix.{Matrix}
use Rattle.lu_machine.specs.declared.thread.Activity.{Activity}
use Rattle.lu_machine.specs.declared.thread.Activity.TheVariants.{Idle, Open}
use Rattle.lu_machine.specs.declared.thread.Thread.{Thread}
use Rattle.lu_machine.specs.Changes.{at_work, idle}
use Rattle.lu_machine.specs.States.{State}
use Rattle.lu_horizon.specs.Dead.{DeadTable}
use Rattle.lu_tree.specs.Alike.{AreActivitiesAlike, AreAlike, AreStandingAlike}
use Rattle.lu_graph.specs.First.{GoesFirst, IsAside, StandsAside}
use Rattle.lu_late.specs.Steps.{IsIdle, IsOneStep}
use Rattle.lu_client.specs.Rounds.{Way}
use Rattle.lu_client.specs.Clients.{client_matrix, client_of}
use Rattle.lu_client.proofs.Turning.{stand_at, turn}

-- ---- at the same places

-- both threads are idle, or both are at the same place of the same operation
abbrev AreAtSame : Activity → Activity → Type 0
AreAtSame Idle Idle = Unit {0}
AreAtSame Idle (Open g) = ⊥
AreAtSame (Open f) Idle = ⊥
AreAtSame (Open f) (Open g) = (g.op ≡ f.op) × (g.place ≡ f.place)

abbrev StandAtSame : Option Thread → Option Thread → Type 0
StandAtSame None None = Unit {0}
StandAtSame None (Some b) = ⊥
StandAtSame (Some a) None = ⊥
StandAtSame (Some a) (Some b) = AreAtSame a.activity b.activity

-- each thread is in both states
pub record HaveSamePlaces (s r : State) : Type 0 where
  pub component : r.component ≡ s.component
  pub threads : (t : ℕ) → StandAtSame (slice_get s.threads t) (slice_get r.threads t)

at_itself : (a : Activity) → AreAtSame a a
at_itself Idle = tt
at_itself (Open f) = (refl, refl)

at_back : (a b : Activity) → AreAtSame a b → AreAtSame b a
at_back Idle Idle h = tt
at_back Idle (Open g) h = absurd h
at_back (Open f) Idle h = absurd h
at_back (Open f) (Open g) h = (sym h.0, sym h.1)

at_on : (a b c : Activity) → AreAtSame a b → AreAtSame b c → AreAtSame a c
at_on Idle Idle c h k = k
at_on Idle (Open g) c h k = absurd h
at_on (Open f) Idle c h k = absurd h
at_on (Open f) (Open g) Idle h k = absurd k
at_on (Open f) (Open g) (Open e) h k = (k.0 ∙ h.0, k.1 ∙ h.1)

stand_back : (o p : Option Thread) → StandAtSame o p → StandAtSame p o
stand_back None None h = tt
stand_back None (Some b) h = absurd h
stand_back (Some a) None h = absurd h
stand_back (Some a) (Some b) h = at_back a.activity b.activity h

stand_on : (o p q : Option Thread) → StandAtSame o p → StandAtSame p q → StandAtSame o q
stand_on None None q h k = k
stand_on None (Some b) q h k = absurd h
stand_on (Some a) None q h k = absurd h
stand_on (Some a) (Some b) None h k = absurd k
stand_on (Some a) (Some b) (Some c) h k = at_on a.activity b.activity c.activity h k

pub places_back : (s r : State) → HaveSamePlaces s r → HaveSamePlaces r s
places_back s r h = record { component = sym h.component; threads = λ t. stand_back (slice_get s.threads t) (slice_get r.threads t) (h.threads t) }

pub places_on : (s r q : State) → HaveSamePlaces s r → HaveSamePlaces r q → HaveSamePlaces s q
places_on s r q h k = record {
  component = k.component ∙ h.component;
  threads = λ t. stand_on (slice_get s.threads t) (slice_get r.threads t) (slice_get q.threads t) (h.threads t) (k.threads t);
}

-- ---- in the client, and where registers are dead

turned_same : (way : Way) (rows : List (List ACall)) (t : ℕ) (o : Option Thread) → StandAtSame o (option_map (turn way rows t) o)
turned_same way rows t None = tt
turned_same way rows t (Some a) = at_itself a.activity

pub client_places : (way : Way) (matrix : Matrix) (s : State) → HaveSamePlaces s (client_of way matrix s)
client_places way matrix s =
    let rows = (client_matrix way matrix).threads in
    record {
      component = refl;
      threads = λ t. subst (StandAtSame (slice_get s.threads t)) (sym (stand_at way rows s.threads t)) (turned_same way rows t (slice_get s.threads t));
    }

alike_activity : (dead : DeadTable) (a b : Activity) → AreActivitiesAlike dead a b → AreAtSame a b
alike_activity dead Idle Idle h = tt
alike_activity dead Idle (Open g) h = absurd h
alike_activity dead (Open f) Idle h = absurd h
alike_activity dead (Open f) (Open g) h = (h.op, h.place)

alike_standing : (dead : DeadTable) (o p : Option Thread) → AreStandingAlike dead o p → StandAtSame o p
alike_standing dead None None h = tt
alike_standing dead None (Some b) h = absurd h
alike_standing dead (Some a) None h = absurd h
alike_standing dead (Some a) (Some b) h = alike_activity dead a.activity b.activity h.1

pub alike_places : (dead : DeadTable) (s r : State) → AreAlike dead s r → HaveSamePlaces s r
alike_places dead s r h = record { component = h.component; threads = λ t. alike_standing dead (slice_get s.threads t) (slice_get r.threads t) (h.threads t) }

-- ---- steps

module _ (s r : State) (same : HaveSamePlaces s r) where
  pub idle_there : (t : ℕ) → IsIdle s t → IsIdle r t
  idle_there t (k, is) = by_thread (slice_get r.threads t) refl (subst (λ o. StandAtSame o (slice_get r.threads t)) is (same.threads t))
    where
      by_activity : (j : ℕ) (a : Activity) → slice_get r.threads t ≡ Some (record { done = j; activity = a }) → AreAtSame Idle a → IsIdle r t
      by_activity j Idle stands h = (j, stands)
      by_activity j (Open g) stands h = absurd h

      by_thread : (o : Option Thread) → slice_get r.threads t ≡ o → StandAtSame (Some (idle k)) o → IsIdle r t
      by_thread None stands h = absurd h
      by_thread (Some b) stands h = by_activity b.done b.activity stands h

  pub aside_there : (t : ℕ) → IsAside s t → IsAside r t
  aside_there t is = by_thread (slice_get r.threads t) refl (subst (λ o. StandAtSame o (slice_get r.threads t)) is.stands (same.threads t))
    where
      by_activity : (j : ℕ) (a : Activity) → slice_get r.threads t ≡ Some (record { done = j; activity = a }) → AreAtSame (Open is.frame) a → IsAside r t
      by_activity j Idle stands h = absurd h
      by_activity j (Open g) stands h = record {
        done = j;
        frame = g;
        stands = stands;
        instr = is.instr;
        at = rw (same.component, h.0, h.1) is.at;
        aside = subst (λ (c : Component). StandsAside c is.instr) (sym same.component) is.aside;
      }

      by_thread : (o : Option Thread) → slice_get r.threads t ≡ o → StandAtSame (Some (at_work is.done is.frame)) o → IsAside r t
      by_thread None stands h = absurd h
      by_thread (Some b) stands h = by_activity b.done b.activity stands h

module _ (s r : State) (same : HaveSamePlaces s r) where
  pub first_there : (m : Move) → GoesFirst s m → GoesFirst r m
  first_there m first t is =
      first t (record {
        aside = aside_there r s (places_back s r same) t is.aside;
        first = λ u lt x. is.first u lt (aside_there s r same u x);
      })

  pub one_step_there : (step : List Move) → IsOneStep s step → IsOneStep r step
  one_step_there [] one = absurd one
  one_step_there (m ∷ []) one = ((λ is. one.0 (idle_there r s (places_back s r same) m.thread is)), first_there m one.1)
  one_step_there (m ∷ k ∷ []) one = (idle_there s r same m.thread one.0, first_there m one.1, one.2)
  one_step_there (m ∷ k ∷ l ∷ u) one = absurd one

-- States that differ in dead registers alone go on alike, and end alike.
use Rattle.std.proofs.Common.{◌≡◌, ℕ, Bool, true, false, List, map, Option, Some, None, slice_get, refl, sym, ◌∙◌, ap, subst, inl, inr}
use Rattle.std.proofs.lemmas.Option.{slice_get-map}
use Rattle.std.specs.Option.{option_map}
use Rattle.lu_component.specs.Component.{Component}
use Rattle.lu_test.specs.declared.schedule.Move.{Move}
use Rattle.lu_machine.specs.declared.event.Event.{Event}
use Rattle.lu_machine.specs.declared.thread.Activity.{Activity}
use Rattle.lu_machine.specs.declared.thread.Activity.TheVariants.{Idle, Open}
use Rattle.lu_machine.specs.declared.thread.Thread.{Thread}
use Rattle.lu_machine.specs.Ends.{IsEnded}
use Rattle.lu_machine.specs.States.{State, progress, progress_of}
use Rattle.lu_machine.specs.Steps.{Step}
use Rattle.lu_machine.proofs.Keeping.{step_moved}
use Rattle.lu_horizon.specs.Alike as by
use Rattle.lu_horizon.specs.Alike.{Liveness}
use Rattle.lu_horizon.specs.Dead.{DeadTable, IsDeadTable, is_dead}
use Rattle.lu_history.specs.declared.serial.SerialOp.{SerialOp}
use Rattle.lu_witness.specs.Goodness.{IsGoodAt}
use Rattle.lu_tree.specs.Alike.{LiveBy}
use Rattle.lu_tree.specs.Alike as table_alike
use Rattle.lu_tree.proofs.AlikeRuns.{alike_back, complete_alike, good_alike, step_alike, stuck_alike}
use Rattle.lu_graph.specs.Nodes.{AreStatesAlike, NotDead}
use Rattle.lu_graph.specs.Rows.{KnowsDead}
use Rattle.lu_graph.proofs.Possible.{same_list}

-- ---- what counts as live

module _ (Live More : Liveness) (weaker : (op place r : ℕ) → More op place r → Live op place r) where
  activity_weaker : (a b : Activity) → by.AreActivitiesAlike Live a b → by.AreActivitiesAlike More a b
  activity_weaker Idle Idle h = tt
  activity_weaker Idle (Open g) h = h
  activity_weaker (Open f) Idle h = h
  activity_weaker (Open f) (Open g) h = record {
    op = h.op;
    place = h.place;
    many = h.many;
    live = λ r there. h.live r (weaker f.op f.place r there);
  }

  standing_weaker : (o p : Option Thread) → by.AreStandingAlike Live o p → by.AreStandingAlike More o p
  standing_weaker None None h = tt
  standing_weaker None (Some b) h = h
  standing_weaker (Some a) None h = h
  standing_weaker (Some a) (Some b) h = (h.0, activity_weaker a.activity b.activity h.1)

  alike_weaker : (s r : State) → by.AreAlike Live s r → by.AreAlike More s r
  alike_weaker s r h = record {
    component = h.component;
    matrix_is = h.matrix_is;
    cells = h.cells;
    locks = h.locks;
    threads = λ t. standing_weaker (slice_get s.threads t) (slice_get r.threads t) (h.threads t);
  }

module _ (Live : Liveness) where
  activity_on : (a b c : Activity) → by.AreActivitiesAlike Live a b → by.AreActivitiesAlike Live b c → by.AreActivitiesAlike Live a c
  activity_on Idle Idle c h k = k
  activity_on Idle (Open g) c h k = absurd h
  activity_on (Open f) Idle c h k = absurd h
  activity_on (Open f) (Open g) Idle h k = k
  activity_on (Open f) (Open g) (Open e) h k = record {
    op = k.op ∙ h.op;
    place = k.place ∙ h.place;
    many = k.many ∙ h.many;
    live = λ r there. k.live r (subst (λ (x : ℕ). Live g.op x r) (sym h.place) (subst (λ (x : ℕ). Live x f.place r) (sym h.op) there)) ∙ h.live r there;
  }

  pub standing_on : (o p q : Option Thread) → by.AreStandingAlike Live o p → by.AreStandingAlike Live p q → by.AreStandingAlike Live o q
  standing_on None None q h k = k
  standing_on None (Some b) q h k = absurd h
  standing_on (Some a) None q h k = absurd h
  standing_on (Some a) (Some b) None h k = k
  standing_on (Some a) (Some b) (Some c) h k = (k.0 ∙ h.0, activity_on a.activity b.activity c.activity h.1 k.1)

-- threads that stand alike have come as far
progress_activity : (Live : Liveness) (a b : Thread) → by.AreStandingAlike Live (Some a) (Some b) → progress_of b ≡ progress_of a
progress_activity Live a b h = by_both a.activity b.activity h.1
  where
    by_both : (x y : Activity) → by.AreActivitiesAlike Live x y → progress_of (record { done = b.done; activity = y }) ≡ progress_of (record { done = a.done; activity = x })
    by_both Idle Idle k = rw h.0 refl
    by_both Idle (Open g) k = absurd k
    by_both (Open f) Idle k = absurd k
    by_both (Open f) (Open g) k = rw h.0 refl

progress_at : (Live : Liveness) (xs ys : List Thread) (t : ℕ) (o p : Option Thread) → slice_get xs t ≡ o → slice_get ys t ≡ p → by.AreStandingAlike Live o p → slice_get (map progress_of ys) t ≡ slice_get (map progress_of xs) t
progress_at Live xs ys t None None at there h = slice_get-map progress_of ys t ∙ (ap (option_map progress_of) (there ∙ sym at) ∙ sym (slice_get-map progress_of xs t))
progress_at Live xs ys t None (Some b) at there h = absurd h
progress_at Live xs ys t (Some a) None at there h = absurd h
progress_at Live xs ys t (Some a) (Some b) at there h =
    slice_get-map progress_of ys t ∙ (ap (option_map progress_of) there ∙ (ap Some (progress_activity Live a b h) ∙ sym (ap (option_map progress_of) at)) ∙ sym (slice_get-map progress_of xs t))

pub progress_alike : (s r : State) → AreStatesAlike s r → progress r ≡ progress s
progress_alike s r h = same_list (progress r) (progress s) (λ t. progress_at (NotDead s.component) s.threads r.threads t (slice_get s.threads t) (slice_get r.threads t) refl refl (h.threads t))

-- ---- by the table

module _ (c : Component) (table : DeadTable) (known : KnowsDead c table) where
  counts : (op place r : ℕ) → NotDead c op place r → LiveBy table op place r
  counts op place r is = by_test (is_dead table op place r) refl
    where
      by_test : (b : Bool) → is_dead table op place r ≡ b → b ≡ false
      by_test true e = absurd (is ((known.tells op place r).0 e))
      by_test false e = refl

  counted : (op place r : ℕ) → LiveBy table op place r → NotDead c op place r
  counted op place r is dead = let e = (known.tells op place r).1 dead in absurd (cc)

  pub by_table : (s r : State) → s.component ≡ c → AreStatesAlike s r → table_alike.AreAlike table s r
  by_table s r is h = alike_weaker (NotDead c) (LiveBy table) counted s r (subst (λ x. by.AreAlike (NotDead x) s r) is h)

  pub from_table : (s r : State) → s.component ≡ c → table_alike.AreAlike table s r → AreStatesAlike s r
  from_table s r is h = subst (λ x. by.AreAlike (NotDead x) s r) (sym is) (alike_weaker (LiveBy table) (NotDead c) counts s r h)

  sound_at : (s : State) → s.component ≡ c → IsDeadTable s.component table
  sound_at s is = subst (λ x. IsDeadTable x table) (sym is) known.sound

  pub states_back : (s r : State) → s.component ≡ c → AreStatesAlike s r → AreStatesAlike r s
  states_back s r is h = from_table r s (h.component ∙ is) (alike_back table s r (by_table s r is h))

  pub states_on : (s r q : State) → s.component ≡ c → AreStatesAlike s r → AreStatesAlike r q → AreStatesAlike s q
  states_on s r q is h k =
      let a = by_table s r is h in
      let b = by_table r q (h.component ∙ is) k in
      from_table s q is (record {
        component = b.component ∙ a.component;
        matrix_is = b.matrix_is ∙ a.matrix_is;
        cells = b.cells ∙ a.cells;
        locks = b.locks ∙ a.locks;
        threads = λ t. standing_on (LiveBy table) (slice_get s.threads t) (slice_get r.threads t) (slice_get q.threads t) (a.threads t) (b.threads t);
      })

  -- a move of the one is one of the other
  pub states_step : (s r : State) → s.component ≡ c → AreStatesAlike s r → (m : Move) (next : State) (event : Option Event) → Step s m next event → (there : State) × Step r m there event × AreStatesAlike next there
  states_step s r is h m next event step =
      let there = step_alike table s r (sound_at s is) (by_table s r is h) m next event step in
      let kept = (step_moved s m next event step).component in
      (there.0, there.1, from_table next there.0 (kept ∙ is) there.2)

  pub states_ended : (s r : State) → s.component ≡ c → AreStatesAlike s r → IsEnded s → IsEnded r
  states_ended s r is h (inl complete) = inl (complete_alike table s r (by_table s r is h) complete)
  states_ended s r is h (inr stuck) = inr (stuck_alike table s r (sound_at s is) (by_table s r is h) stuck)

  pub states_good : (Set : List SerialOp → Type 0) (s r : State) (h : List Event) → s.component ≡ c → AreStatesAlike s r → IsGoodAt Set s h → IsGoodAt Set r h
  states_good Set s r h is alike good = good_alike table Set s r h (sound_at s is) (by_table s r is alike) good

-- What goes on from a state goes on from each that differs in dead registers alone.
use Rattle.std.proofs.Common.{◌≡◌, ℕ, zero, suc, ◌-◌, ◌<◌, ◌≤◌, if◌then◌else◌, Bool, true, false, List, [], ◌∷◌, ◌++◌, Option, Some, None, MatchOption, MatchBool, length, slice_get, refl, sym, ◌∙◌, ap, subst, inl, inr, arith}
use Rattle.std.specs.Option.{option_map_or}
use Rattle.std.proofs.lemmas.Bool.{cases_eq, cases_lt}
use Rattle.std.proofs.lemmas.Option.{slice_get_within}
use Rattle.lu_component.specs.Component.{Component}
use Rattle.lu_test.specs.declared.schedule.Move.{Move}
use Rattle.lu_machine.specs.declared.counts.Counts.{Counts}
use Rattle.lu_machine.specs.declared.event.Event.{Event}
use Rattle.lu_machine.specs.declared.thread.Activity.{Activity}
use Rattle.lu_machine.specs.declared.thread.Activity.TheVariants.{Idle, Open}
use Rattle.lu_machine.specs.declared.thread.Thread.{Thread}
use Rattle.lu_machine.specs.declared.undo.Shared.{Shared}
use Rattle.lu_machine.specs.declared.undo.Shared.TheVariants.{Nothing}
use Rattle.lu_machine.specs.Changes.{at_work, idle}
use Rattle.lu_machine.specs.Ends.{HasMove, HasNoMove, IsComplete, IsFinished, IsStuck}
use Rattle.lu_machine.specs.Runs.{Leads, with_event}
use Rattle.lu_machine.specs.Schedules.{IsEndedWithin, Reaches}
use Rattle.lu_machine.specs.States.{State, call_count, instr_at, with_standing}
use Rattle.lu_machine.specs.Steps.{ByActivity, OneStep, RunsOn, Step, activity_is_local, event_after, is_at_local, more_local, opened, picks_of, thread_after}
use Rattle.lu_machine.specs.Undoes.{with_shared}
use Rattle.lu_machine.proofs.Keeping.{step_moved}
use Rattle.lu_machine.proofs.Numbers.{number_same}
use Rattle.lu_machine.proofs.StepLaws.{feasible_step, step_feasible}
use Rattle.lu_horizon.specs.Dead.{DeadTable, IsDeadTable, is_dead}
use Rattle.lu_horizon.proofs.OwnLaws.{leads_component}
use Rattle.lu_orders.specs.Solo.{only_move}
use Rattle.lu_history.specs.declared.serial.SerialOp.{SerialOp}
use Rattle.lu_witness.specs.Goodness.{Any, IsGoodAt}
use Rattle.lu_tree.specs.declared.known.Known.{Known}
use Rattle.lu_tree.specs.Accesses.{instr_access}
use Rattle.lu_tree.specs.Alike.{AreActivitiesAlike, AreAlike, AreStandingAlike}
use Rattle.lu_tree.specs.Known.{IsKnown, counts_of}
use Rattle.lu_tree.specs.Walks.{AreBelow, IsGoodAfter}
use Rattle.lu_tree.proofs.Alike.{standing_itself}
use Rattle.lu_tree.proofs.Accessing.{acting, written, written_other, written_stands}
use Rattle.lu_tree.proofs.AlikeLaws.{access_same, after_live, carries_live, effect_of, event_live, frame_parts, with_registers, written_cells, written_component, written_here, written_locks, written_matrix}

module _ (table : DeadTable) where
  activity_back : (a b : Activity) → AreActivitiesAlike table a b → AreActivitiesAlike table b a
  activity_back Idle Idle h = tt
  activity_back Idle (Open g) h = h
  activity_back (Open f) Idle h = h
  activity_back (Open f) (Open g) h = record {
    op = sym h.op;
    place = sym h.place;
    many = sym h.many;
    live = λ r alive. sym (h.live r (subst (λ (x : ℕ). is_dead table f.op x r ≡ false) h.place (subst (λ (x : ℕ). is_dead table x g.place r ≡ false) h.op alive)));
  }

  pub standing_back : (o p : Option Thread) → AreStandingAlike table o p → AreStandingAlike table p o
  standing_back None None h = tt
  standing_back None (Some b) h = h
  standing_back (Some a) None h = h
  standing_back (Some a) (Some b) h = (sym h.0, activity_back a.activity b.activity h.1)

  pub alike_back : (s r : State) → AreAlike table s r → AreAlike table r s
  alike_back s r h = record {
    component = sym h.component;
    matrix_is = sym h.matrix_is;
    cells = sym h.cells;
    locks = sym h.locks;
    threads = λ t. standing_back (slice_get s.threads t) (slice_get r.threads t) (h.threads t);
  }

  -- the thread stands in the other state too
  other_there : (a : Thread) (o : Option Thread) → AreStandingAlike table (Some a) o → (b : Thread) × (o ≡ Some b) × (b.done ≡ a.done) × AreActivitiesAlike table a.activity b.activity
  other_there a None h = absurd h
  other_there a (Some b) h = (b, refl, h.0, h.1)

  written_alike : (s r : State) → AreAlike table s r → (w : Shared) (t : ℕ) (was there x y : Thread) → slice_get s.threads t ≡ Some was → slice_get r.threads t ≡ Some there → AreStandingAlike table (Some x) (Some y) → AreAlike table (written s w t x) (written r w t y)
  written_alike s r alike w t was there x y one two h = record {
    component = written_component s r w t x y alike.component;
    matrix_is = written_matrix s r w t x y alike.matrix_is;
    cells = written_cells s r w t x y alike.cells;
    locks = written_locks s r w t x y alike.locks;
    threads = λ u. elim (cases_eq t u) [
      | inl same ↦
          (let here : AreStandingAlike table (slice_get (written s w t x).threads t) (slice_get (written r w t y).threads t) = rw (written_stands s w t was x one, written_stands r w t there y two) h in
          subst (λ z. AreStandingAlike table (slice_get (written s w t x).threads z) (slice_get (written r w t y).threads z)) same here)
      | inr other ↦ rw (written_other s w t u x other, written_other r w t u y other) (alike.threads u)
    ];
  }

  -- one call or instruction
  record OnceAlike (s r : State) (m : Move) (next : State) (event : Option Event) : Type 0 where
    pub there : State
    pub step : OneStep r m there event
    pub alike : AreAlike table next there
    pub kept : next.component ≡ s.component

  by_alike : (s r : State) → IsDeadTable s.component table → AreAlike table s r → (m : Move) (next : State) (event : Option Event) (k : ℕ) (a b : Activity) → slice_get s.threads m.thread ≡ Some (record { done = k; activity = a }) → slice_get r.threads m.thread ≡ Some (record { done = k; activity = b }) → AreActivitiesAlike table a b → ByActivity s m k a next event → OnceAlike s r m next event
  by_alike s r dead alike m next event k Idle Idle one two like h =
      let now = at_work k (opened h.0) in
      let there = with_standing r m.thread now in
      record {
        there = there;
        step = (idle k, two, (h.0, rw alike.matrix_is h.1, h.2, refl, h.4));
        alike = subst (λ x. AreAlike table x there) (sym h.3) (written_alike s r alike Nothing m.thread (idle k) (idle k) now now one two (standing_itself table (Some now)));
        kept = ap (λ (x : State). x.component) h.3;
      }
  by_alike s r dead alike m next event k Idle (Open g) one two like h = absurd like
  by_alike s r dead alike m next event k (Open f) Idle one two like h = absurd like
  by_alike s r dead alike m next event k (Open f) (Open g) one two like h =
      let t = m.thread in
      let instr = h.0 in
      let a = acting s m f instr h.1 h.2 h.5 in
      let on = a.there r alike.component (access_same s r alike.cells alike.locks (instr_access s.component f instr)) in
      let l = carries_live table f g.registers like.many like.live r m instr (with_shared r a.wrote) h.2 (λ x is. dead f.op f.place instr x h.3 is) on.0 in
      let other = with_registers f g.registers in
      let effect = effect_of other l.change in
      let stands : slice_get r.threads t ≡ Some (at_work k other) = two ∙ ap (λ x. Some (at_work k x)) (frame_parts f g like.op like.place) in
      let x = thread_after k h.2 in
      let y = thread_after k effect in
      let there = written r a.wrote t y in
      let at : instr_at r.component f.op f.place ≡ Some instr = rw alike.component h.3 in
      let event_is : event ≡ event_after t k effect = h.7 ∙ (ap (event_after t k) l.is ∙ event_live t k f g.registers l.change) in
      let next_is : next ≡ written s a.wrote t x = h.6 ∙ ap (λ (z : State). with_standing z t x) a.is in
      let standing : AreStandingAlike table (Some x) (Some y) = subst (λ e. AreStandingAlike table (Some (thread_after k e)) (Some y)) (sym l.is) (after_live table f g.registers like.many like.live k l.change l.keeps) in
      record {
        there = there;
        step = (at_work k other, stands, (instr, with_shared r a.wrote, effect, at, h.4, l.there, refl, event_is));
        alike = subst (λ z. AreAlike table z there) (sym next_is) (written_alike s r alike a.wrote t (at_work k f) (at_work k other) x y one stands standing);
        kept = ap (λ (z : State). z.component) next_is ∙ written_here s a.wrote t x;
      }

  once_alike : (s r : State) → IsDeadTable s.component table → AreAlike table s r → (m : Move) (next : State) (event : Option Event) → OneStep s m next event → OnceAlike s r m next event
  once_alike s r dead alike m next event one =
      let thread = one.0 in
      let here : AreStandingAlike table (Some thread) (slice_get r.threads m.thread) = subst (λ z. AreStandingAlike table z (slice_get r.threads m.thread)) one.1 (alike.threads m.thread) in
      let other = other_there thread (slice_get r.threads m.thread) here in
      let stands : slice_get r.threads m.thread ≡ Some (record { done = thread.done; activity = other.0.activity }) = other.1 ∙ ap (λ (n : ℕ). let z : Thread = record { done = n; activity = other.0.activity } in Some z) other.2 in
      by_alike s r dead alike m next event thread.done thread.activity other.0.activity one.1 stands other.3 one.2

  -- whether the next instruction is local
  local_activity : (s r : State) → r.component ≡ s.component → (a b : Activity) → AreActivitiesAlike table a b → activity_is_local r b ≡ activity_is_local s a
  local_activity s r component Idle Idle h = refl
  local_activity s r component Idle (Open g) h = absurd h
  local_activity s r component (Open f) Idle h = absurd h
  local_activity s r component (Open f) (Open g) h = rw (component, h.op, h.place) refl

  local_standing : (s r : State) → r.component ≡ s.component → (o p : Option Thread) → AreStandingAlike table o p → option_map_or (λ thread. activity_is_local r thread.activity) p false ≡ option_map_or (λ thread. activity_is_local s thread.activity) o false
  local_standing s r component None None h = refl
  local_standing s r component None (Some b) h = absurd h
  local_standing s r component (Some a) None h = absurd h
  local_standing s r component (Some a) (Some b) h = local_activity s r component a.activity b.activity h.1

  local_alike : (s r : State) → AreAlike table s r → (t : ℕ) → is_at_local r t ≡ is_at_local s t
  local_alike s r alike t = local_standing s r alike.component (slice_get s.threads t) (slice_get r.threads t) (alike.threads t)

  more_alike : (s r : State) → AreAlike table s r → (t : ℕ) → more_local r t ≡ more_local s t
  more_alike s r alike t =
      ap (λ (x : Component). x.local - (if is_at_local r t then 1 else 0)) alike.component
      ∙ ap (λ (b : Bool). s.component.local - (if b then 1 else 0)) (local_alike s r alike t)

  still_dead : (s next : State) → next.component ≡ s.component → IsDeadTable s.component table → IsDeadTable next.component table
  still_dead s next same dead = subst (λ x. IsDeadTable x table) (sym same) dead

  runs_alike : (n : ℕ) (s r : State) → IsDeadTable s.component table → AreAlike table s r → (t : ℕ) (end : State) → RunsOn n s t end → (there : State) × RunsOn n r t there × AreAlike table end there
  runs_alike zero s r dead alike t end runs = (r, refl, subst (λ x. AreAlike table x r) (sym runs) alike)
  runs_alike (suc n) s r dead alike t end runs = by_test (λ x y. runs_alike n x y) (is_at_local s t) refl runs
    where
      by_test : ((x y : State) → IsDeadTable x.component table → AreAlike table x y → (t : ℕ) (end : State) → RunsOn n x t end → (there : State) × RunsOn n y t there × AreAlike table end there) → (test : Bool) → is_at_local s t ≡ test → MatchBool test ((next : State) × OneStep s (record { thread = t; pick = 0 }) next None × RunsOn n next t end) (end ≡ s) → (there : State) × RunsOn (suc n) r t there × AreAlike table end there
      by_test go true is h =
          let once = once_alike s r dead alike (only_move t) h.0 None h.1 in
          let rest = go h.0 once.there (still_dead s h.0 once.kept dead) once.alike t end h.2 in
          let still : is_at_local r t ≡ true = local_alike s r alike t ∙ is in
          (rest.0, rw still (once.there, once.step, rest.1), rest.2)
      by_test go false is h =
          let still : is_at_local r t ≡ false = local_alike s r alike t ∙ is in
          (r, rw still refl, subst (λ x. AreAlike table x r) (sym h) alike)

  -- a move of the one is one of the other
  pub step_alike : (s r : State) → IsDeadTable s.component table → AreAlike table s r → (m : Move) (next : State) (event : Option Event) → Step s m next event → (there : State) × Step r m there event × AreAlike table next there
  step_alike s r dead alike m next event step =
      let once = once_alike s r dead alike m step.0 event step.1 in
      let rest = runs_alike (more_local s m.thread) step.0 once.there (still_dead s step.0 once.kept dead) once.alike m.thread next step.2 in
      let on : RunsOn (more_local r m.thread) once.there m.thread rest.0 = rw (more_alike s r alike m.thread) rest.1 in
      (rest.0, (once.there, once.step, on), rest.2)

  pub leads_alike : (s r : State) → IsDeadTable s.component table → AreAlike table s r → (u : List Move) (end : State) (h : List Event) → Leads s u end h → (there : State) × Leads r u there h × AreAlike table end there
  leads_alike s r dead alike [] end h leads = (r, (refl, leads.1), subst (λ x. AreAlike table x r) (sym leads.0) alike)
  leads_alike s r dead alike (m ∷ u) end h leads =
      let first = step_alike s r dead alike m leads.0 leads.1 leads.3 in
      let kept = (step_moved s m leads.0 leads.1 leads.3).component in
      let rest = leads_alike leads.0 first.0 (still_dead s leads.0 kept dead) first.2 u end leads.2 leads.4 in
      (rest.0, (first.0, leads.1, leads.2, first.1, rest.1, leads.5), rest.2)

  pub dead_alike : (s r : State) → IsDeadTable s.component table → AreAlike table s r → IsDeadTable r.component table
  dead_alike s r dead alike = still_dead s r alike.component dead

  picks_within : (s r : State) → IsDeadTable s.component table → AreAlike table s r → (t : ℕ) → picks_of s t ≤ picks_of r t
  picks_within s r dead alike t =
      elim (cases_lt (picks_of r t) (picks_of s t)) [
        | inl more ↦
            (let m : Move = record { thread = t; pick = picks_of r t } in
            let step = feasible_step s m more in
            let there = step_alike s r dead alike m step.0 step.1 step.2 in
            let feasible : picks_of r t < picks_of r t = step_feasible r m there.0 step.1 there.1 in
            absurd (omega arith))
        | inr within ↦ within
      ]

  pub picks_alike : (s r : State) → IsDeadTable s.component table → AreAlike table s r → (t : ℕ) → picks_of r t ≡ picks_of s t
  picks_alike s r dead alike t =
      let one = picks_within s r dead alike t in
      let two = picks_within r s (dead_alike s r dead alike) (alike_back s r alike) t in
      omega arith

  -- they have ended alike
  finished_activity : (a b : Activity) → AreActivitiesAlike table a b → a ≡ Idle → b ≡ Idle
  finished_activity Idle Idle h is = refl
  finished_activity Idle (Open g) h is = absurd h
  finished_activity (Open f) Idle h is = absurd h
  finished_activity (Open f) (Open g) h is = absurd (cc)

  finished_alike : (s r : State) (t : ℕ) → r.matrix ≡ s.matrix → (o p : Option Thread) → AreStandingAlike table o p → MatchOption o (Unit {0}) (λ thread. (thread.activity ≡ Idle) × (call_count s t ≤ thread.done)) → MatchOption p (Unit {0}) (λ thread. (thread.activity ≡ Idle) × (call_count r t ≤ thread.done))
  finished_alike s r t matrix None None h is = tt
  finished_alike s r t matrix None (Some b) h is = absurd h
  finished_alike s r t matrix (Some a) None h is = absurd h
  finished_alike s r t matrix (Some a) (Some b) h is = (finished_activity a.activity b.activity h.1 is.0, rw (matrix, h.0) is.1)

  -- a thread that is not there has finished
  finished_past : (s : State) (t : ℕ) → IsComplete s → IsFinished s t
  finished_past s t complete = by_standing (slice_get s.threads t) refl
    where
      by_standing : (o : Option Thread) → slice_get s.threads t ≡ o → IsFinished s t
      by_standing None is = rw is tt
      by_standing (Some thread) is = complete t (slice_get_within s.threads t thread is)

  pub complete_alike : (s r : State) → AreAlike table s r → IsComplete s → IsComplete r
  complete_alike s r alike complete = λ t within. finished_alike s r t alike.matrix_is (slice_get s.threads t) (slice_get r.threads t) (alike.threads t) (finished_past s t complete)

  none_alike : (s r : State) → IsDeadTable s.component table → AreAlike table s r → HasNoMove s → HasNoMove r
  none_alike s r dead alike none = λ t. picks_alike s r dead alike t ∙ none t

  move_alike : (s r : State) → IsDeadTable s.component table → AreAlike table s r → HasMove s → HasMove r
  move_alike s r dead alike some = (some.0, (let same = picks_alike s r dead alike some.0 in let there : 0 < picks_of s some.0 = some.1 in omega arith))

  pub stuck_alike : (s r : State) → IsDeadTable s.component table → AreAlike table s r → IsStuck s → IsStuck r
  stuck_alike s r dead alike stuck = (λ complete. stuck.0 (complete_alike r s (alike_back s r alike) complete), none_alike s r dead alike stuck.1)

  -- where a schedule leads to from the one
  reaches_alike : (s r : State) → IsDeadTable s.component table → AreAlike table s r → (P Q : State → List Event → Type 0) → ((end there : State) (h : List Event) → IsDeadTable end.component table → AreAlike table end there → P end h → Q there h) → (u : List Move) → Reaches s u P → Reaches r u Q
  reaches_alike s r dead alike P Q to u reach =
      let there = leads_alike s r dead alike u reach.end reach.history reach.leads in
      record {
        end = there.0;
        history = reach.history;
        leads = there.1;
        holds = to reach.end there.0 reach.history (still_dead s reach.end (leads_component s u reach.end reach.history reach.leads) dead) there.2 reach.holds;
      }

  ended_alike : (s r : State) → IsDeadTable s.component table → AreAlike table s r → (left : ℕ) (u : List Move) → IsEndedWithin s left u → IsEndedWithin r left u
  ended_alike s r dead alike left u (inl c) = inl (c.0, reaches_alike s r dead alike (λ end _. IsComplete end) (λ end _. IsComplete end) (λ end there h d a is. complete_alike end there a is) u c.1)
  ended_alike s r dead alike left u (inr k) = inr (k.0, reaches_alike s r dead alike (λ end _. IsStuck end) (λ end _. IsStuck end) (λ end there h d a is. stuck_alike end there d a is) u k.1)

  module _ (Set : List SerialOp → Type 0) where
    pub good_alike : (end there : State) (h : List Event) → IsDeadTable end.component table → AreAlike table end there → IsGoodAt Set end h → IsGoodAt Set there h
    good_alike end there h dead alike (inl good) = inl (complete_alike end there alike good.0, good.1)
    good_alike end there h dead alike (inr good) = inr (stuck_alike end there dead alike good.0, good.1)

    -- what is known of the one is known of the other
    pub below_alike : (s r : State) → IsDeadTable s.component table → AreAlike table s r → (h : List Event) (left : ℕ) (counts : Counts) → AreBelow Set s h left counts → AreBelow Set r h left counts
    below_alike s r dead alike h left counts below =
        let back = alike_back s r alike in
        let dead_r = dead_alike s r dead alike in
        record {
          good = λ k u re ended. reaches_alike s r dead alike (IsGoodAfter Set k) (IsGoodAfter Set k) (λ end there e d a good. good_alike end there (k ++ e) d a good) u (below.good k u re (ended_alike r s dead_r back left u ended));
          numbers = record {
            complete = number_same (λ v. Any v × ((length v ≤ left) × Reaches s v (λ end _. IsComplete end))) (λ v. Any v × ((length v ≤ left) × Reaches r v (λ end _. IsComplete end))) counts.complete below.numbers.complete
                (λ v k. (tt, (k.1.0, reaches_alike s r dead alike (λ end _. IsComplete end) (λ end _. IsComplete end) (λ end there h d a is. complete_alike end there a is) v k.1.1)))
                (λ v k. (tt, (k.1.0, reaches_alike r s dead_r back (λ end _. IsComplete end) (λ end _. IsComplete end) (λ end there h d a is. complete_alike end there a is) v k.1.1)));
            stuck = number_same (λ v. Any v × ((length v ≤ left) × Reaches s v (λ end _. IsStuck end))) (λ v. Any v × ((length v ≤ left) × Reaches r v (λ end _. IsStuck end))) counts.stuck below.numbers.stuck
                (λ v k. (tt, (k.1.0, reaches_alike s r dead alike (λ end _. IsStuck end) (λ end _. IsStuck end) (λ end there h d a is. stuck_alike end there d a is) v k.1.1)))
                (λ v k. (tt, (k.1.0, reaches_alike r s dead_r back (λ end _. IsStuck end) (λ end _. IsStuck end) (λ end there h d a is. stuck_alike end there d a is) v k.1.1)));
            cut = number_same (λ v. Any v × ((length v ≡ left) × Reaches s v (λ end _. HasMove end))) (λ v. Any v × ((length v ≡ left) × Reaches r v (λ end _. HasMove end))) counts.cut below.numbers.cut
                (λ v k. (tt, (k.1.0, reaches_alike s r dead alike (λ end _. HasMove end) (λ end _. HasMove end) (λ end there h d a is. move_alike end there d a is) v k.1.1)))
                (λ v k. (tt, (k.1.0, reaches_alike r s dead_r back (λ end _. HasMove end) (λ end _. HasMove end) (λ end there h d a is. move_alike end there d a is) v k.1.1)));
          };
        }

    pub known_alike : (s r : State) → IsDeadTable s.component table → AreAlike table s r → (h : List Event) (left : ℕ) (known : Known) → IsKnown Set s h left known → IsKnown Set r h left known
    known_alike s r dead alike h zero known is = (below_alike s r dead alike h zero (counts_of known) is.0, is.1)
    known_alike s r dead alike h (suc left) known is = (
      below_alike s r dead alike h (suc left) (counts_of known) is.0,
      λ t below kid next event moves.
          (let back = alike_back s r alike in
          let dead_r = dead_alike s r dead alike in
          let there = step_alike r s dead_r back (only_move t) next event moves.1 in
          let one : picks_of s t ≡ 1 = picks_alike r s dead_r back t ∙ moves.0 in
          let kept = (step_moved s (only_move t) there.0 event there.1).component in
          known_alike there.0 next (still_dead s there.0 kept dead) (alike_back next there.0 there.2) (h ++ with_event event []) left below (is.1 t below kid there.0 event (one, there.1))),
    )

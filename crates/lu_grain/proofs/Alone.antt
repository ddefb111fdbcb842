-- With `local 0` each local instruction is a move of its own: a schedule becomes a longer one, with the same history to the same end.
use Rattle.std.proofs.Common.{◌≡◌, ℕ, zero, suc, ◌+◌, ◌-◌, ◌*◌, ◌≤◌, ◌⊎◌, Bool, true, false, if◌then◌else◌, MatchBool, List, [], ◌∷◌, ◌++◌, length, length-append, Option, None, refl, sym, ◌∙◌, ap, subst, inl, arith}
use Rattle.lu_component.specs.Component.{Component}
use Rattle.lu_test.specs.declared.schedule.Move.{Move}
use Rattle.lu_machine.specs.declared.event.Event.{Event}
use Rattle.lu_machine.specs.Runs.{with_event}
use Rattle.lu_machine.specs.States.{State}
use Rattle.lu_machine.specs.Steps.{OneStep, RunsOn, Step, is_at_local, more_local}
use Rattle.lu_machine.proofs.Keeping.{step_moved}
use Rattle.lu_machine.proofs.Paths.{with_event-append}
use Rattle.lu_machine.proofs.Unseen.{one_without_local}
use Rattle.lu_serial.specs.Serial.{HasOpen}
use Rattle.lu_grain.specs.Grains.{grained}
use Rattle.lu_grain.proofs.Ahead.{LeadsBy, times_more}
use Rattle.lu_grain.proofs.Carried.{once_grained, once_opens}

-- one call or instruction is a move with `local 0`
alone : (s : State) (m : Move) (new : State) (event : Option Event) → OneStep s m new event → Step (grained s 0) m (grained new 0) event
alone s m new event h = (one_without_local (grained s 0) m (grained new 0) event refl).1 (once_grained s 0 m new event h)

pub leads_by_on : (Guard : State → Move → Type 0) (s : State) (u v : List Move) (mid end : State) (h k : List Event) → LeadsBy Guard s u mid h → LeadsBy Guard mid v end k → LeadsBy Guard s (u ++ v) end (h ++ k)
leads_by_on Guard s [] v mid end h k p q = rw (← p.0, p.1) q
leads_by_on Guard s (m ∷ u) v mid end h k p q =
    (p.0, p.1, p.2 ++ k, p.3, leads_by_on Guard p.0 u v mid end p.2 k p.4 q, ap (λ x. x ++ k) p.5 ∙ with_event-append p.1 p.2 k, p.6)

-- a schedule with `local 0`, of so many moves at least and at most
pub record LeadsAlone (Guard : State → Move → Type 0) (s end : State) (history : List Event) (least most : ℕ) : Type 0 where
  pub moves : List Move
  pub leads : LeadsBy Guard (grained s 0) moves (grained end 0) history
  pub many : least ≤ length moves
  pub few : length moves ≤ most

less : (local counted : ℕ) → local - counted ≤ local
less local counted = omega arith

module _ (Guard : State → Move → Type 0)
    (guarded : (s r : State) (m n : Move) → n.thread ≡ m.thread → ((t : ℕ) → HasOpen r t → HasOpen s t ⊎ (t ≡ m.thread)) → Guard s m → Guard r n) where
  pub runs_alone : (n : ℕ) (s : State) (t : ℕ) (end : State) → RunsOn n s t end → Guard (grained s 0) (record { thread = t; pick = 0 }) → LeadsAlone Guard s end [] 0 n
  runs_alone zero s t end h guard = record { moves = []; leads = (ap (λ x. grained x 0) h, refl); many = omega arith; few = omega arith }
  runs_alone (suc n) s t end h guard = by_test (λ x. runs_alone n x t end) (is_at_local s t) h
    where
      by_test : ((x : State) → RunsOn n x t end → Guard (grained x 0) (record { thread = t; pick = 0 }) → LeadsAlone Guard x end [] 0 n) → (test : Bool) → MatchBool test ((next : State) × OneStep s (record { thread = t; pick = 0 }) next None × RunsOn n next t end) (end ≡ s) → LeadsAlone Guard s end [] 0 (suc n)
      by_test go true h =
          let m : Move = record { thread = t; pick = 0 } in
          let onto : Guard (grained h.0 0) m = guarded (grained s 0) (grained h.0 0) m m refl (once_opens s m h.0 None h.1) guard in
          let rest = go h.0 h.2 onto in
          let few = rest.few in
          record {
            moves = m ∷ rest.moves;
            leads = (grained h.0 0, None, [], alone s m h.0 None h.1, rest.leads, refl, guard);
            many = omega arith;
            few = omega (arith, few);
          }
      by_test go false h = record { moves = []; leads = (ap (λ x. grained x 0) h, refl); many = omega arith; few = omega arith }

  step_alone : (s : State) (m : Move) (next : State) (event : Option Event) → Step s m next event → Guard s m → LeadsAlone Guard s next (with_event event []) 1 (suc s.component.local)
  step_alone s m next event h guard =
      let on : Move = record { thread = m.thread; pick = 0 } in
      let first : Guard (grained s 0) m = guarded s (grained s 0) m m refl (λ t o. inl o) guard in
      let onto : Guard (grained h.0 0) on = guarded s (grained h.0 0) m on refl (once_opens s m h.0 event h.1) guard in
      let rest = runs_alone (more_local s m.thread) h.0 m.thread next h.2 onto in
      let few = rest.few in
      let most = less s.component.local (if is_at_local s m.thread then 1 else 0) in
      record {
        moves = m ∷ rest.moves;
        leads = (grained h.0 0, event, [], alone s m h.0 event h.1, rest.leads, refl, first);
        many = omega arith;
        few = omega (arith, few, most);
      }

  pub leads_alone : (u : List Move) (s end : State) (history : List Event) → LeadsBy Guard s u end history → LeadsAlone Guard s end history (length u) ((s.component.local + 1) * length u)
  leads_alone [] s end history p = record { moves = []; leads = (ap (λ x. grained x 0) p.0, p.1); many = omega arith; few = omega arith }
  leads_alone (m ∷ u) s end history p =
      let first = step_alone s m p.0 p.1 p.3 p.6 in
      let rest = leads_alone u p.0 end p.2 p.4 in
      let kept : p.0.component ≡ s.component = (step_moved s m p.0 p.1 p.3).component in
      let few : length rest.moves ≤ (s.component.local + 1) * length u = subst (λ (c : Component). length rest.moves ≤ (c.local + 1) * length u) kept rest.few in
      let both = leads_by_on Guard (grained s 0) first.moves rest.moves (grained p.0 0) (grained end 0) (with_event p.1 []) p.2 first.leads rest.leads in
      let whole : with_event p.1 [] ++ p.2 ≡ history = with_event-append p.1 [] p.2 ∙ sym p.5 in
      let short = first.few in
      let long = first.many in
      let longer = rest.many in
      let sum = length-append first.moves rest.moves in
      let product = times_more s.component.local (length u) in
      record {
        moves = first.moves ++ rest.moves;
        leads = subst (λ h. LeadsBy Guard (grained s 0) (first.moves ++ rest.moves) (grained end 0) h) whole both;
        many = omega (arith, long, longer, sum);
        few = rw product (omega (arith, few, short, sum));
      }

-- Each end is found by steps that make no call before they have to.
use Rattle.std.proofs.Common.{arith, ◌≡◌, ℕ, zero, suc, ◌+◌, ◌<◌, Bool, List, [], ◌∷◌, ◌++◌, length, length-append, Option, append_assoc, refl, sym, ◌∙◌, ap, subst, inl, inr}
use Rattle.lu_component.specs.Component.{Component}
use Rattle.lu_test.specs.declared.schedule.Move.{Move}
use Rattle.lu_machine.specs.declared.event.Event.{Event}
use Rattle.lu_machine.specs.Ends.{IsEnded}
use Rattle.lu_machine.specs.Runs.{Leads, with_event}
use Rattle.lu_machine.specs.States.{State}
use Rattle.lu_machine.specs.Steps.{Step}
use Rattle.lu_machine.proofs.Paths.{with_event-append}
use Rattle.lu_tree.specs.Reordered.{AreReordered}
use Rattle.lu_tree.proofs.Reordering.{reordered_after, reordered_both, reordered_same}
use Rattle.lu_graph.specs.First.{GoesFirst, IsFirstAside}
use Rattle.lu_graph.specs.Guards.{TellsGuarded}
use Rattle.lu_graph.proofs.Aside.{busy, first_or_none, in_front, one_first, told_on}
use Rattle.lu_graph.proofs.Guarded.{IsOwned, start_owned, step_owned}
use Rattle.lu_late.specs.Steps.{AreCalls, IsIdle, IsOneStep, LeadsInSteps, StepsTellAll}
use Rattle.lu_late.proofs.Ahead.{OneAhead, TwoAhead, comes_ahead}

-- the same events before both
reordered_front : (g h k : List Event) → AreReordered h k → AreReordered (g ++ h) (g ++ k)
reordered_front [] h k re = re
reordered_front (e ∷ g) h k re = reordered_after e (g ++ h) (g ++ k) (reordered_front g h k re)

-- one step more
step_more : (s next end : State) (step : List Move) (n moves : ℕ) (first behind h : List Event) → IsOneStep s step → Leads s step next first → LeadsInSteps next n end behind → length step + n ≡ moves → AreReordered (first ++ behind) h → LeadsInSteps s moves end h
step_more s next end step n moves first behind h one leads r many re =
    let there : AreReordered (first ++ (r.before ++ r.after)) (first ++ behind) = reordered_front first (r.before ++ r.after) behind r.reordered in
    record {
      steps = suc r.steps;
      schedule = step ++ r.schedule;
      rest = r.rest;
      before = first ++ r.before;
      taken = (step, r.schedule, next, first, r.before, one, leads, r.taken, refl, refl);
      calls = r.calls;
      are_calls = r.are_calls;
      after = r.after;
      leads = r.leads;
      long = (let sum = length-append step r.schedule in let long = r.long in omega (arith, sum, long, many));
      reordered = subst (λ x. AreReordered x h) (sym (append_assoc first r.before r.after)) (reordered_both (first ++ (r.before ++ r.after)) (first ++ behind) h there re);
    }

module _ (s : State) (moves : ℕ) (end : State) (h : List Event) where
  one_more : (o : OneAhead s moves end h) → GoesFirst s o.m → LeadsInSteps o.now (length o.rest) end o.behind → LeadsInSteps s moves end h
  one_more o goes r =
      step_more s o.now end (o.m ∷ []) (length o.rest) moves (with_event o.event []) o.behind h
      (o.busy, goes)
      (o.now, o.event, [], o.step, (refl, refl), refl)
      r
      (let long = o.long in omega (arith, long))
      (subst (λ x. AreReordered x h) (sym (with_event-append o.event [] o.behind)) o.reordered)

  two_more : (o : TwoAhead s moves end h) → GoesFirst s o.c → LeadsInSteps o.now (length o.rest) end o.behind → LeadsInSteps s moves end h
  two_more o goes r =
      let more : with_event o.event (with_event o.other []) ++ o.behind ≡ with_event o.event (with_event o.other o.behind) =
      with_event-append o.event (with_event o.other []) o.behind ∙ ap (with_event o.event) (with_event-append o.other [] o.behind) in
      step_more s o.now end (o.c ∷ o.m ∷ []) (length o.rest) moves (with_event o.event (with_event o.other [])) o.behind h
      (o.idle, goes, o.same)
      (o.mid, o.event, with_event o.other [], o.one, (o.now, o.other, [], o.two, (refl, refl), refl), refl)
      r
      (let long = o.long in omega (arith, long))
      (subst (λ x. AreReordered x h) (sym more) o.reordered)

calls_alone : (s : State) (u : List Move) (end : State) (h : List Event) → AreCalls s u → Leads s u end h → LeadsInSteps s (length u) end h
calls_alone s u end h calls leads = record {
  steps = zero;
  schedule = [];
  rest = s;
  before = [];
  taken = (refl, refl, refl);
  calls = u;
  are_calls = calls;
  after = h;
  leads = leads;
  long = omega arith;
  reordered = reordered_same h;
}

-- the first thread that is at a left mover moves first
aside_ahead : (s : State) (u : List Move) (end : State) (h : List Event) (t : ℕ) → IsOwned s → IsFirstAside s t → Leads s u end h → IsEnded end → (o : OneAhead s (length u) end h) × GoesFirst s o.m
aside_ahead s u end h t owned is leads ended =
    let f = in_front s t u end h owned is.aside leads ended in (
      record {
        m = f.m;
        busy = λ idle. (let here = subst (IsIdle s) f.is idle in busy s t is.aside here.0 here.1);
        now = f.now;
        event = f.event;
        step = f.step;
        rest = f.rest;
        long = f.long;
        behind = f.behind;
        leads = f.leads;
        reordered = f.reordered;
      },
      λ x first. f.is ∙ one_first s t x is first,
    )

module _ (guarded : List Bool) where
  -- what each move preserves
  abbrev pub Goes : State → Type 0
  Goes s = TellsGuarded s.component guarded × IsOwned s

  goes_on : (s : State) (m : Move) (next : State) (event : Option Event) → Step s m next event → Goes s → Goes next
  goes_on s m next event step (told, owned) = (told_on guarded s m next event step told, step_owned s m next event step owned)

  pub tell : (n : ℕ) (s : State) (u : List Move) (end : State) (h : List Event) → length u < n → Goes s → Leads s u end h → IsEnded end → LeadsInSteps s (length u) end h
  tell zero s u end h few goes leads ended = absurd (omega (arith, few))
  tell (suc n) s u end h few goes leads ended = elim (first_or_none s guarded goes.0) as (λ _. LeadsInSteps s (length u) end h) [
    | inl found ↦
        (let a = aside_ahead s u end h found.0 goes.1 found.1 leads ended in
        let o = a.0 in
        let long = o.long in
        one_more s (length u) end h o a.1 (tell n o.now o.rest end o.behind (omega (arith, few, long)) (goes_on s o.m o.now o.event o.step goes) o.leads ended))
    | inr none ↦ elim (comes_ahead s u end h leads) as (λ _. LeadsInSteps s (length u) end h) [
      | inl o ↦
          (let long = o.long in
          one_more s (length u) end h o (λ t is. absurd (none t is.aside)) (tell n o.now o.rest end o.behind (omega (arith, few, long)) (goes_on s o.m o.now o.event o.step goes) o.leads ended))
      | inr (inl o) ↦
          (let long = o.long in
          let there = goes_on o.mid o.m o.now o.other o.two (goes_on s o.c o.mid o.event o.one goes) in
          two_more s (length u) end h o (λ t is. absurd (none t is.aside)) (tell n o.now o.rest end o.behind (omega (arith, few, long)) there o.leads ended))
      | inr (inr calls) ↦ calls_alone s u end h calls leads
    ]
  ]

pub steps_tell_all : StepsTellAll
steps_tell_all c matrix guarded s told start u end h leads ended =
    let component : s.component ≡ c = ap (λ (x : State). x.component) start.is in
    tell guarded (suc (length u)) s u end h (omega arith) (subst (λ (d : Component). TellsGuarded d guarded) (sym component) told, start_owned c matrix s start) leads ended

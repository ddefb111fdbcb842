-- The first move that is no call may come first, with the call of its thread before it.
use Rattle.std.proofs.Common.{arith, ◌≡◌, ℕ, ◌+◌, ◌⊎◌, List, [], ◌∷◌, length, Option, refl, sym, ◌∙◌, subst, inl, inr}
use Rattle.std.proofs.lemmas.Bool.{cases_eq}
use Rattle.lu_test.specs.declared.schedule.Move.{Move}
use Rattle.lu_machine.specs.declared.event.Event.{Event}
use Rattle.lu_machine.specs.Runs.{Leads, with_event}
use Rattle.lu_machine.specs.States.{State}
use Rattle.lu_machine.specs.Steps.{Step}
use Rattle.lu_machine.proofs.StepLaws.{step_same}
use Rattle.lu_tree.specs.Reordered.{AreReordered}
use Rattle.lu_tree.proofs.Reordering.{reordered_both, reordered_same}
use Rattle.lu_graph.proofs.Aside.{event_before, events_turned}
use Rattle.lu_late.specs.Steps.{AreCalls, IsIdle}
use Rattle.lu_late.proofs.Calls.{call_opens, comes_after, idle_back, idle_on, idle_or_not}

-- a move of a thread that is not idle comes first
pub record OneAhead (s : State) (moves : ℕ) (end : State) (history : List Event) : Type 0 where
  pub m : Move
  pub busy : IsIdle s m.thread → ⊥
  pub now : State
  pub event : Option Event
  pub step : Step s m now event
  pub rest : List Move
  pub long : length rest + 1 ≡ moves
  pub behind : List Event
  pub leads : Leads now rest end behind
  pub reordered : AreReordered (with_event event behind) history

-- a call comes first, and then the next move of its thread
pub record TwoAhead (s : State) (moves : ℕ) (end : State) (history : List Event) : Type 0 where
  pub c : Move
  pub m : Move
  pub idle : IsIdle s c.thread
  pub same : m.thread ≡ c.thread
  pub mid : State
  pub event : Option Event
  pub one : Step s c mid event
  pub now : State
  pub other : Option Event
  pub two : Step mid m now other
  pub rest : List Move
  pub long : length rest + 2 ≡ moves
  pub behind : List Event
  pub leads : Leads now rest end behind
  pub reordered : AreReordered (with_event event (with_event other behind)) history

-- either comes first, or there are only calls
abbrev pub ComesAhead : State → List Move → State → List Event → Type 0
ComesAhead s u end h = OneAhead s (length u) end h ⊎ (TwoAhead s (length u) end h ⊎ AreCalls s u)

-- past a call
module _ (s : State) (x : Move) (w : List Move) (end next : State) (e : Option Event) (rest h : List Event) (idle : IsIdle s x.thread) (step : Step s x next e) (joined : h ≡ with_event e rest) where
  one_past : (o : OneAhead next (length w) end rest) → ComesAhead s (x ∷ w) end h
  one_past o = elim (cases_eq x.thread o.m.thread) as (λ _. ComesAhead s (x ∷ w) end h) [
    | inl same ↦ inr (inl (record {
      c = x;
      m = o.m;
      idle = idle;
      same = sym same;
      mid = next;
      event = e;
      one = step;
      now = o.now;
      other = o.event;
      two = o.step;
      rest = o.rest;
      long = (let long = o.long in omega (arith, long));
      behind = o.behind;
      leads = o.leads;
      reordered = subst (AreReordered (with_event e (with_event o.event o.behind))) (sym joined) (event_before e (with_event o.event o.behind) rest o.reordered);
    }))
    | inr differ ↦
        (let a = comes_after s next o.now x o.m e o.event idle differ step o.step in
        inl (record {
          m = o.m;
          busy = λ is. o.busy (idle_on s x next e o.m.thread differ step is);
          now = a.now;
          event = o.event;
          step = a.step;
          rest = x ∷ o.rest;
          long = (let long = o.long in omega (arith, long));
          behind = with_event e o.behind;
          leads = (o.now, e, o.behind, a.after, o.leads, refl);
          reordered = reordered_both (with_event o.event (with_event e o.behind)) (with_event e (with_event o.event o.behind)) h
              (events_turned o.event e o.behind a.unordered)
              (subst (AreReordered (with_event e (with_event o.event o.behind))) (sym joined) (event_before e (with_event o.event o.behind) rest o.reordered));
        }))
  ]

  two_past : (o : TwoAhead next (length w) end rest) → TwoAhead s (length (x ∷ w)) end h
  two_past o =
      let differ : x.thread ≡ o.c.thread → ⊥ = λ same. call_opens s x next e idle step (subst (IsIdle next) (sym same) o.idle) in
      let apart : x.thread ≡ o.m.thread → ⊥ = λ same. differ (same ∙ o.same) in
      let a = comes_after s next o.mid x o.c e o.event idle differ step o.one in
      let there : IsIdle a.now x.thread = idle_on s o.c a.now o.event x.thread (λ same. differ (sym same)) a.step idle in
      let b = comes_after a.now o.mid o.now x o.m e o.other there apart a.after o.two in
      let first = with_event o.event (with_event o.other (with_event e o.behind)) in
      let second = with_event o.event (with_event e (with_event o.other o.behind)) in
      let third = with_event e (with_event o.event (with_event o.other o.behind)) in
      let once : AreReordered first second = event_before o.event (with_event o.other (with_event e o.behind)) (with_event e (with_event o.other o.behind)) (events_turned o.other e o.behind b.unordered) in
      let twice : AreReordered second third = events_turned o.event e (with_event o.other o.behind) a.unordered in
      let on : AreReordered third h = subst (AreReordered third) (sym joined) (event_before e (with_event o.event (with_event o.other o.behind)) rest o.reordered) in
      record {
        c = o.c;
        m = o.m;
        idle = idle_back s x next e o.c.thread differ step o.idle;
        same = o.same;
        mid = a.now;
        event = o.event;
        one = a.step;
        now = b.now;
        other = o.other;
        two = b.step;
        rest = x ∷ o.rest;
        long = (let long = o.long in omega (arith, long));
        behind = with_event e o.behind;
        leads = (o.now, e, o.behind, b.after, o.leads, refl);
        reordered = reordered_both first second h once (reordered_both second third h twice on);
      }

  past_call : ComesAhead next w end rest → ComesAhead s (x ∷ w) end h
  past_call (inl o) = one_past o
  past_call (inr (inl o)) = inr (inl (two_past o))
  past_call (inr (inr calls)) = inr (inr (idle, λ now event other. subst (λ z. AreCalls z w) (step_same s x next now e event step other).0 calls))

pub comes_ahead : (s : State) (u : List Move) (end : State) (h : List Event) → Leads s u end h → ComesAhead s u end h
comes_ahead s [] end h leads = inr (inr tt)
comes_ahead s (x ∷ w) end h (next, e, rest, step, leads, joined) = elim (idle_or_not s x.thread) as (λ _. ComesAhead s (x ∷ w) end h) [
  | inl idle ↦ past_call s x w end next e rest h idle step joined (comes_ahead next w end rest leads)
  | inr busy ↦ inl (record {
    m = x;
    busy = busy;
    now = next;
    event = e;
    step = step;
    rest = w;
    long = omega arith;
    behind = rest;
    leads = leads;
    reordered = subst (AreReordered (with_event e rest)) (sym joined) (reordered_same (with_event e rest));
  })
]

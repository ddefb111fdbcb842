-- A schedule leads to where all open operations are blocked, if steps do.
use Rattle.std.proofs.Common.{arith, ◌≡◌, ◌⊎◌, ℕ, zero, suc, ◌+◌, ◌<◌, Bool, List, [], ◌∷◌, ◌++◌, length, length-append, Option, refl, sym, ◌∙◌, ap, subst, inl, inr}
use Rattle.std.proofs.lemmas.Bool.{cases_eq, cases_lt}
use Rattle.lu_component.specs.Component.{Component}
use Rattle.lu_test.specs.declared.schedule.Move.{Move}
use Rattle.lu_machine.specs.declared.event.Event.{Event}
use Rattle.lu_machine.specs.Runs.{Leads, with_event}
use Rattle.lu_machine.specs.States.{State}
use Rattle.lu_machine.specs.Steps.{Step, picks_of}
use Rattle.lu_machine.proofs.Paths.{child_leads}
use Rattle.lu_machine.proofs.StepLaws.{feasible_step, step_feasible, step_same}
use Rattle.lu_graph.specs.First.{IsAside, IsFirstAside}
use Rattle.lu_graph.specs.Guards.{TellsGuarded}
use Rattle.lu_graph.proofs.Guarded.{IsOwned, start_owned, step_owned}
use Rattle.lu_graph.proofs.Aside.{InFront, busy, first_or_none, one_first, one_pick, stays_aside, told_on}
use Rattle.lu_late.specs.Steps.{AreCalls, IsIdle, IsOneStep, LeadsBySteps}
use Rattle.lu_late.proofs.Ahead.{comes_ahead}
use Rattle.lu_late.proofs.Blocked.{picks_on}
use Rattle.lu_late.proofs.Fronts.{front_other, front_own}
use Rattle.lu_late.proofs.Calls.{call_opens, comes_after, idle_back, idle_on}
use Rattle.lu_late.specs.Rests.{AreOpenSteps, IsAtRest, MayRest, RestsBySteps, StepsTellRests}

-- ---- where moves lead, whatever the events

abbrev pub Moves : State → List Move → State → Type 0
Moves s [] end = end ≡ s
Moves s (m ∷ u) end = (next : State) × (e : Option Event) × Step s m next e × Moves next u end

moves_of : (s : State) (u : List Move) (end : State) (h : List Event) → Leads s u end h → Moves s u end
moves_of s [] end h leads = leads.0
moves_of s (m ∷ u) end h (next, e, rest, step, leads, joined) = (next, e, step, moves_of next u end rest leads)

leads_of : (s : State) (u : List Move) (end : State) → Moves s u end → (h : List Event) × Leads s u end h
leads_of s [] end same = ([], (same, refl))
leads_of s (m ∷ u) end (next, e, step, moves) = (let on = leads_of next u end moves in (with_event e on.0, (next, e, on.0, step, on.1, refl)))

moves_on : (s : State) (u v : List Move) (mid end : State) → Moves s u mid → Moves mid v end → Moves s (u ++ v) end
moves_on s [] v mid end same moves = subst (λ z. Moves z v end) same moves
moves_on s (m ∷ u) v mid end (next, e, step, first) second = (next, e, step, moves_on next u v mid end first second)

rests_by : (s : State) (u : List Move) (end : State) → Moves s u end → IsAtRest end → MayRest s
rests_by s u end moves at_rest = (let leads = leads_of s u end moves in record { moves = u; rest = end; history = leads.0; leads = leads.1; at_rest = at_rest })

rests_after : (s : State) (u : List Move) (mid : State) → Moves s u mid → MayRest mid → MayRest s
rests_after s u mid moves r = rests_by s (u ++ r.moves) r.rest (moves_on s u r.moves mid r.rest moves (moves_of mid r.moves r.rest r.history r.leads)) r.at_rest

-- a thread at a left mover is not blocked
aside_moves : (s : State) (t : ℕ) → IsAside s t → IsAtRest s → ⊥
aside_moves s t is at_rest =
    let one = one_pick s t is in
    let none = at_rest t (λ idle. busy s t is idle.0 idle.1) in
    absurd (omega (arith, one, none))

-- ---- calls, and moves of other threads

pub record Beside (s mid now : State) (c m : Move) : Type 0 where
  pub there : State
  pub event : Option Event
  pub other : Option Event
  pub moved : Step mid m there event
  pub called : Step now c there other

-- a move can be made after the call of another thread too
beside : (s mid now : State) (c m : Move) (e f : Option Event) → IsIdle s c.thread → (c.thread ≡ m.thread → ⊥) → Step s c mid e → Step s m now f → Beside s mid now c m
beside s mid now c m e f idle differ one two =
    let picks : picks_of mid m.thread ≡ picks_of s m.thread = picks_on s c mid e m.thread differ idle one in
    let could = step_feasible s m now f two in
    let go = feasible_step mid m (subst (λ n. m.pick < n) (sym picks) could) in
    let a = comes_after s mid go.0 c m e go.1 idle differ one go.2 in
    let same = step_same s m a.now now go.1 f a.step two in
    record { there = go.0; event = go.1; other = e; moved = go.2; called = subst (λ z. Step z c go.0 e) same.0 a.after }

-- a call and then calls
calls_then : (s : State) (x : Move) (next : State) (e : Option Event) (v : List Move) → IsIdle s x.thread → Step s x next e → AreCalls next v → AreCalls s (x ∷ v)
calls_then s x next e v idle step calls = (idle, λ now event other. subst (λ z. AreCalls z v) (step_same s x next now e event step other).0 calls)

-- a move of an open operation leads to the same before calls and after them
pub record Past (r now : State) (m : Move) (u : List Move) : Type 0 where
  pub there : State
  pub event : Option Event
  pub moved : Step r m there event
  pub calls : AreCalls now u
  pub called : Moves now u there

past : (s : State) (u : List Move) (r : State) (m : Move) (now : State) (f : Option Event) → AreCalls s u → Moves s u r → (IsIdle s m.thread → ⊥) → Step s m now f → Past r now m u
past s [] r m now f calls same open_here two = record { there = now; event = f; moved = subst (λ z. Step z m now f) (sym same) two; calls = tt; called = refl }
past s (x ∷ w) r m now f calls (next, e, one, moves) open_here two =
    let differ : x.thread ≡ m.thread → ⊥ = λ same. open_here (subst (IsIdle s) same calls.0) in
    let b = beside s next now x m e f calls.0 differ one two in
    let on = past next w r m b.there b.event (calls.1 next e one) moves (λ is. open_here (idle_back s x next e m.thread differ one is)) b.moved in
    let still : IsIdle now x.thread = idle_on s m now f x.thread (λ same. differ (sym same)) two calls.0 in
    record {
      there = on.there;
      event = on.event;
      moved = on.moved;
      calls = calls_then now x b.there b.other w still b.called on.calls;
      called = (b.there, b.other, b.called, on.called);
    }

-- so do several
pub record AllPast (r q : State) (w u : List Move) : Type 0 where
  pub there : State
  pub moved : Moves r w there
  pub calls : AreCalls q u
  pub called : Moves q u there

all_past : (s : State) (u : List Move) (r : State) (w : List Move) (q : State) → AreCalls s u → Moves s u r → AreOpenSteps s w → Moves s w q → AllPast r q w u
all_past s u r [] q calls moves steps same = record { there = r; moved = refl; calls = subst (λ z. AreCalls z u) (sym same) calls; called = subst (λ z. Moves z u r) (sym same) moves }
all_past s u r (m ∷ w) q calls moves steps (now, f, two, rest) =
    let p = past s u r m now f calls moves steps.0 two in
    let on = all_past now u p.there w q p.calls p.called (steps.2 now f two) rest in
    record { there = on.there; moved = (p.there, p.event, p.moved, on.moved); calls = on.calls; called = on.called }

-- ---- a call that is not blocked at once

-- of the calls one and the next move of its thread come first, and the rest after them
pub record Freed (q r : State) (moves : ℕ) : Type 0 where
  pub c : Move
  pub m : Move
  pub idle : IsIdle q c.thread
  pub same : m.thread ≡ c.thread
  pub mid : State
  pub event : Option Event
  pub one : Step q c mid event
  pub now : State
  pub other : Option Event
  pub two : Step mid m now other
  pub rest : List Move
  pub long : length rest + 1 ≡ moves
  pub there : State
  pub called : Moves now rest there
  pub last : Option Event
  pub moved : Step r m there last

call_rests : (q : State) (x : Move) (next : State) (e : Option Event) → IsAtRest q → IsIdle q x.thread → Step q x next e → picks_of next x.thread ≡ 0 → IsAtRest next
call_rests q x next e at_rest idle step none t open_there = elim (cases_eq x.thread t) as (λ _. picks_of next t ≡ 0) [
  | inl same ↦ subst (λ v. picks_of next v ≡ 0) same none
  | inr differ ↦ picks_on q x next e t differ idle step ∙ at_rest t (λ is. open_there (idle_on q x next e t differ step is))
]

freed : (q : State) (u : List Move) (r : State) → IsAtRest q → AreCalls q u → Moves q u r → IsAtRest r ⊎ Freed q r (length u)
freed q [] r at_rest calls same = inl (subst IsAtRest (sym same) at_rest)
freed q (x ∷ w) r at_rest calls (next, e, step, moves) = elim (cases_lt 0 (picks_of next x.thread)) as (λ _. IsAtRest r ⊎ Freed q r (length (x ∷ w))) [
  | inl some ↦
      (let m : Move = record { thread = x.thread; pick = 0 } in
      let go = feasible_step next m some in
      let p = past next w r m go.0 go.1 (calls.1 next e step) moves (call_opens q x next e calls.0 step) go.2 in
      inr (record {
        c = x;
        m = m;
        idle = calls.0;
        same = refl;
        mid = next;
        event = e;
        one = step;
        now = go.0;
        other = go.1;
        two = go.2;
        rest = w;
        long = omega arith;
        there = p.there;
        called = p.called;
        last = p.event;
        moved = p.moved;
      }))
  | inr few ↦
      (let none : picks_of next x.thread ≡ 0 = omega (arith, few) in
      elim (freed next w r (call_rests q x next e at_rest calls.0 step none) (calls.1 next e step) moves) as (λ _. IsAtRest r ⊎ Freed q r (length (x ∷ w))) [
        | inl there ↦ inl there
        | inr o ↦
            (let differ : x.thread ≡ o.c.thread → ⊥ = λ same. call_opens q x next e calls.0 step (subst (IsIdle next) (sym same) o.idle) in
            let apart : x.thread ≡ o.m.thread → ⊥ = λ same. differ (same ∙ o.same) in
            let a = comes_after q next o.mid x o.c e o.event calls.0 differ step o.one in
            let still : IsIdle a.now x.thread = idle_on q o.c a.now o.event x.thread (λ same. differ (sym same)) a.step calls.0 in
            let b = comes_after a.now o.mid o.now x o.m e o.other still apart a.after o.two in
            let long = o.long in
            inr (record {
              c = o.c;
              m = o.m;
              idle = idle_back q x next e o.c.thread differ step o.idle;
              same = o.same;
              mid = a.now;
              event = o.event;
              one = a.step;
              now = b.now;
              other = o.other;
              two = b.step;
              rest = x ∷ o.rest;
              long = omega (arith, long);
              there = o.there;
              called = (o.now, e, b.after, o.called);
              last = o.last;
              moved = o.moved;
            }))
      ])
]

-- ---- a left mover comes first

-- it does, or its thread is at it still
front : (s : State) (t : ℕ) (u : List Move) (end : State) (h : List Event) → IsOwned s → IsAside s t → Leads s u end h → InFront s t (length u) end h ⊎ IsAside end t
front s t [] end h owned is leads = inr (subst (λ z. IsAside z t) (sym leads.0) is)
front s t (x ∷ w) end h owned is (next, e, rest, step, leads, joined) = elim (cases_eq x.thread t) as (λ _. InFront s t (length (x ∷ w)) end h ⊎ IsAside end t) [
  | inl same ↦ inl (front_own s t x w end next e rest h same step leads joined)
  | inr other ↦ elim (front next t w end rest (step_owned s x next e step owned) (stays_aside s x next e t other step is) leads) as (λ _. InFront s t (length (x ∷ w)) end h ⊎ IsAside end t) [
    | inl r ↦ inl (front_other s t x w end next e rest h owned other is step joined r)
    | inr still ↦ inr still
  ]
]

-- it does where the last move is of its thread
front_last : (s : State) (t : ℕ) (u : List Move) (m : Move) (end : State) (h : List Event) → IsOwned s → IsAside s t → m.thread ≡ t → Leads s (u ++ m ∷ []) end h → InFront s t (length (u ++ m ∷ [])) end h
front_last s t [] m end h owned is same (next, e, rest, step, leads, joined) = front_own s t m [] end next e rest h same step leads joined
front_last s t (x ∷ w) m end h owned is same (next, e, rest, step, leads, joined) = elim (cases_eq x.thread t) as (λ _. InFront s t (length (x ∷ (w ++ m ∷ []))) end h) [
  | inl own ↦ front_own s t x (w ++ m ∷ []) end next e rest h own step leads joined
  | inr other ↦
      front_other s t x (w ++ m ∷ []) end next e rest h owned other is step joined
      (front_last next t w m end rest (step_owned s x next e step owned) (stays_aside s x next e t other step is) same leads)
]

-- the thread has one move only
one_move : (s : State) (t : ℕ) (x m : Move) (next now : State) (e f : Option Event) → IsAside s t → x.thread ≡ t → m.thread ≡ t → Step s x next e → Step s m now f → next ≡ now
one_move s t x m next now e f is own same one two =
    let few = one_pick s t is in
    let first : x.pick < picks_of s t = subst (λ v. x.pick < picks_of s v) own (step_feasible s x next e one) in
    let second : m.pick < picks_of s t = subst (λ v. m.pick < picks_of s v) same (step_feasible s m now f two) in
    let picks : x.pick ≡ m.pick = omega (arith, few, first, second) in
    let make : ℕ → ℕ → Move = λ v p. record { thread = v; pick = p } in
    let whole : x ≡ m = ap (λ v. make v x.pick) (own ∙ sym same) ∙ ap (λ p. make m.thread p) picks in
    (step_same s m next now e f (subst (λ y. Step s y next e) whole one) two).0

-- the first thread that is at a left mover makes a step
step_first : (s : State) (t : ℕ) (m : Move) → IsFirstAside s t → m.thread ≡ t → IsOneStep s (m ∷ [])
step_first s t m is same = (
  (λ idle. (let here = subst (IsIdle s) same idle in busy s t is.aside here.0 here.1)),
  (λ x first. same ∙ one_first s t x is first),
)

-- ---- all together

module _ (guarded : List Bool) (Here : State → Type 0) (goes : (s : State) → Here s → TellsGuarded s.component guarded × IsOwned s)
    (on : (s : State) (step : List Move) (next : State) (first : List Event) → Here s → IsOneStep s step → Leads s step next first → Here next)
    (rests : (s : State) → Here s → RestsBySteps s) where
  one_on : (s : State) (m : Move) (next : State) (e : Option Event) → Here s → IsOneStep s (m ∷ []) → Step s m next e → Here next
  one_on s m next e here one step = on s (m ∷ []) next (with_event e []) here one (next, e, [], step, (refl, refl), refl)

  two_on : (s : State) (c m : Move) (mid next : State) (e f : Option Event) → Here s → IsOneStep s (c ∷ m ∷ []) → Step s c mid e → Step mid m next f → Here next
  two_on s c m mid next e f here one first second =
      on s (c ∷ m ∷ []) next (with_event e (with_event f [])) here one (mid, e, with_event f [], first, (next, f, [], second, (refl, refl), refl), refl)

  all_on : (s : State) (w : List Move) (q : State) → Here s → AreOpenSteps s w → Moves s w q → Here q
  all_on s [] q here steps same = subst Here (sym same) here
  all_on s (m ∷ w) q here steps (now, f, step, rest) = all_on now w q (one_on s m now f here (steps.0, steps.1) step) (steps.2 now f step) rest

  -- for shorter schedules
  abbrev Shorter : ℕ → Type 0
  Shorter n = (s : State) (u : List Move) (end : State) (h : List Event) → length u < n → Here s → Leads s u end h → MayRest end

  module _ (n : ℕ) (shorter : Shorter n) where
    -- where only calls are left
    after_calls : (s : State) (u : List Move) (r : State) (h : List Event) → length u < suc n → Here s → AreCalls s u → Leads s u r h → MayRest r
    after_calls s u r h few here calls leads =
        let w = rests s here in
        let moves = moves_of s w.moves w.rest w.history w.leads in
        let q = w.rest in
        let there = all_on s w.moves q here w.steps moves in
        let p = all_past s u r w.moves q calls (moves_of s u r h leads) w.steps moves in
        elim (freed q u p.there w.at_rest p.calls p.called) as (λ _. MayRest r) [
          | inl at_rest ↦ rests_by r w.moves p.there p.moved at_rest
          | inr o ↦
              (let now = two_on q o.c o.m o.mid o.now o.event o.other there (o.idle, (λ t is. absurd (aside_moves q t is.aside w.at_rest)), o.same) o.one o.two in
              let rest = leads_of o.now o.rest o.there o.called in
              let long = o.long in
              let last = shorter o.now o.rest o.there rest.0 (omega (arith, few, long)) now rest.1 in
              rests_after r w.moves p.there p.moved (rests_after p.there (o.m ∷ []) o.there (o.there, o.last, o.moved, refl) last))
        ]

    by_rest : (k : ℕ) (s : State) (u : List Move) (r : State) (h : List Event) → length u < suc n → Here s → Leads s u r h → (w : List Move) (q : State) (g : List Event) → Leads s w q g → IsAtRest q → length w < k → MayRest r
    by_rest zero s u r h few here leads w q g way at_rest short = absurd (omega (arith, short))
    by_rest (suc k) s u r h few here leads w q g way at_rest short = elim (first_or_none s guarded (goes s here).0) as (λ _. MayRest r) [
      | inl found ↦ elim (front s found.0 u r h (goes s here).1 found.1.aside leads) as (λ _. MayRest r) [
        | inl f ↦
            (let long = f.long in
            shorter f.now f.rest r f.behind (omega (arith, few, long)) (one_on s f.m f.now f.event here (step_first s found.0 f.m found.1 f.is) f.step) f.leads)
        | inr still ↦ elim (front s found.0 w q g (goes s here).1 found.1.aside way) as (λ _. MayRest r) [
          | inl o ↦
              (let m : Move = record { thread = found.0; pick = 0 } in
              let one = one_pick r found.0 still in
              let go = feasible_step r m (omega (arith, one)) in
              let f = front_last s found.0 u m go.0 (h ++ with_event go.1 []) (goes s here).1 found.1.aside refl (child_leads s u r h leads m go.0 go.1 go.2) in
              let same : o.now ≡ f.now = one_move s found.0 o.m f.m o.now f.now o.event f.event found.1.aside o.is f.is o.step f.step in
              let whole : length (u ++ m ∷ []) ≡ length u + 1 = length-append u (m ∷ []) in
              let long = f.long in
              let less = o.long in
              let last = by_rest k f.now f.rest go.0 f.behind (omega (arith, few, long, whole)) (one_on s f.m f.now f.event here (step_first s found.0 f.m found.1 f.is) f.step) f.leads
              o.rest q o.behind (subst (λ z. Leads z o.rest q o.behind) same o.leads) at_rest (omega (arith, short, less)) in
              rests_after r (m ∷ []) go.0 (go.0, go.1, go.2, refl) last)
          | inr never ↦ absurd (aside_moves q found.0 never at_rest)
        ]
      ]
      | inr none ↦ elim (comes_ahead s u r h leads) as (λ _. MayRest r) [
        | inl o ↦
            (let long = o.long in
            shorter o.now o.rest r o.behind (omega (arith, few, long)) (one_on s o.m o.now o.event here (o.busy, λ t is. absurd (none t is.aside)) o.step) o.leads)
        | inr (inl o) ↦
            (let long = o.long in
            shorter o.now o.rest r o.behind (omega (arith, few, long)) (two_on s o.c o.m o.mid o.now o.event o.other here (o.idle, (λ t is. absurd (none t is.aside)), o.same) o.one o.two) o.leads)
        | inr (inr calls) ↦ after_calls s u r h few here calls leads
      ]
    ]

  pub all_rest : (n : ℕ) → Shorter n
  all_rest zero s u r h few here leads = absurd (omega (arith, few))
  all_rest (suc n) s u r h few here leads =
      let w = rests s here in
      by_rest n (all_rest n) (suc (length w.moves)) s u r h few here leads w.moves w.rest w.history w.leads w.at_rest (omega arith)

-- ---- from a start

-- one step more
step_after : (n : ℕ) (s : State) (u : List Move) (q : State) (h : List Event) (step : List Move) (next : State) (first : List Event) → LeadsBySteps n s u q h → IsOneStep q step → Leads q step next first → (v : List Move) × (k : List Event) × LeadsBySteps (suc n) s v next k
step_after zero s u q h step next first taken one leads =
    (step ++ [], first ++ [], (step, [], next, first, [], subst (λ z. IsOneStep z step) taken.1 one, subst (λ z. Leads z step next first) taken.1 leads, (refl, refl, refl), refl, refl))
step_after (suc n) s u q h step next first (st, rest, mid, f, more, begun, lead, taken, joined, whole) one leads =
    let on = step_after n mid rest q more step next first taken one leads in
    (st ++ on.0, f ++ on.1, (st, on.0, mid, f, on.1, begun, lead, on.2, refl, refl))

module _ (guarded : List Bool) (s : State) where
  -- steps lead there from s
  record IsReached (q : State) : Type 0 where
    steps : ℕ
    schedule : List Move
    before : List Event
    taken : LeadsBySteps steps s schedule q before
    goes : TellsGuarded q.component guarded × IsOwned q

  goes_along : (step : List Move) (q next : State) (first : List Event) → TellsGuarded q.component guarded × IsOwned q → Leads q step next first → TellsGuarded next.component guarded × IsOwned next
  goes_along [] q next first goes leads = subst (λ (z : State). TellsGuarded z.component guarded × IsOwned z) (sym leads.0) goes
  goes_along (m ∷ u) q next first goes (mid, e, rest, step, leads, joined) = goes_along u mid next rest (told_on guarded q m mid e step goes.0, step_owned q m mid e step goes.1) leads

  reached_on : (q : State) (step : List Move) (next : State) (first : List Event) → IsReached q → IsOneStep q step → Leads q step next first → IsReached next
  reached_on q step next first there one leads =
      let more = step_after there.steps s there.schedule q there.before step next first there.taken one leads in
      record { steps = suc there.steps; schedule = more.0; before = more.1; taken = more.2; goes = goes_along step q next first there.goes leads }

pub steps_tell_rests : StepsTellRests
steps_tell_rests c matrix guarded s told start may u end h leads =
    let component : s.component ≡ c = ap (λ (x : State). x.component) start.is in
    let first : IsReached guarded s s = record {
      steps = zero;
      schedule = [];
      before = [];
      taken = (refl, refl, refl);
      goes = (subst (λ (d : Component). TellsGuarded d guarded) (sym component) told, start_owned c matrix s start);
    } in
    all_rest guarded (IsReached guarded s) (λ q there. there.goes) (reached_on guarded s) (λ q there. may there.steps there.schedule q there.before there.taken)
    (suc (length u)) s u end h (omega arith) first leads

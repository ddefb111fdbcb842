-- What comes of an operation, told by its first move.
use Rattle.std.proofs.Common.{arith, ◌≡◌, ◌+◌, ◌<◌, ◌⊎◌, ℕ, suc, List, [], ◌∷◌, ◌++◌, length, Option, Some, None, refl, sym, ◌∙◌, ap, subst, inl, inr}
use Rattle.std.proofs.lemmas.Bool.{cases_lt}
use Rattle.lu_component.specs.Component.{Component}
use Rattle.lu_test.specs.Matrix.{Matrix}
use Rattle.lu_test.specs.declared.schedule.Move.{Move}
use Rattle.lu_machine.specs.declared.event.Event.{Event}
use Rattle.lu_machine.specs.declared.event.Event.TheVariants.{Call, Return}
use Rattle.lu_machine.specs.declared.thread.Activity.TheVariants.{Idle}
use Rattle.lu_machine.specs.States.{State}
use Rattle.lu_machine.specs.Steps.{Step, picks_of}
use Rattle.lu_machine.specs.Runs.{Leads, with_event}
use Rattle.lu_machine.specs.Positions.{CanStandAt}
use Rattle.lu_machine.proofs.StepLaws.{step_feasible, step_same}
use Rattle.lu_history.specs.declared.serial.SerialOp.{SerialOp}
use Rattle.lu_history.specs.declared.serial.SerialOutcome.{SerialOutcome}
use Rattle.lu_history.specs.declared.serial.SerialOutcome.TheVariants.{Stuck}
use Rattle.lu_history.specs.Parts.{as_serial}
use Rattle.lu_serial.specs.Serial.{HasOpen, entries_of}
use Rattle.lu_serial.proofs.Opening.{same_or_not, step_turned}
use Rattle.lu_serial.specs.Whole.{IsQuiet}
use Rattle.lu_serial.proofs.Moves.{Stepped, open_busy, step_stepped}
use Rattle.lu_serial.proofs.Ops.{open_before}
use Rattle.lu_client.specs.Alone.{AllBy}
use Rattle.lu_serial_graph.specs.declared.alone.Ending.{Ending}
use Rattle.lu_serial_graph.specs.Playing.{AddsBelow, AddsEndings, Comes, ComesBelow, EndsSo, Gives, Grows, IsAmong, Lasts, MayGoOn, OpensOnly, StillLasts, op_of, returned_by, state_at}

-- ---- entries

entries_none : (h k : List Event) (e : Option Event) → h ≡ with_event e k → e ≡ None → entries_of h ≡ entries_of k
entries_none h k e is none = ap entries_of (is ∙ ap (λ x. with_event x k) none)

entries_call : (h k : List Event) (e : Option Event) (t n : ℕ) → h ≡ with_event e k → e ≡ Some (Call t n) → entries_of h ≡ entries_of k
entries_call h k e t n is called = ap entries_of (is ∙ ap (λ x. with_event x k) called)

entries_return : (h k : List Event) (e : Option Event) (t n : ℕ) (o : _) → h ≡ with_event e k → e ≡ Some (Return t n o) → entries_of h ≡ op_of t (as_serial o) ∷ entries_of k
entries_return h k e t n o is closed = ap entries_of (is ∙ ap (λ x. with_event x k) closed)

-- ---- moves without a return

open_none : (u : List Move) (s end : State) (t : ℕ) (h : List Event) → HasOpen s t → AllBy t u → Leads s u end h → entries_of h ≡ [] → HasOpen end t
open_none [] s end t h busy by p none = subst (λ x. HasOpen x t) (sym p.0) busy
open_none (m ∷ u) s end t h busy by p none =
    let its = step_stepped s m p.0 p.1 p.3 in
    let busy_here : HasOpen s m.thread = subst (HasOpen s) (sym by.0) busy in
    elim its.kind as (λ _. HasOpen end t) [
      | inl called ↦ absurd (open_busy s m.thread its.before its.was busy_here called.0)
      | inr other ↦ elim other as (λ _. HasOpen end t) [
        | inl went ↦ open_none u p.0 end t p.2 (subst (HasOpen p.0) by.0 (its.after, its.is, went.1)) by.1 p.4 (sym (entries_none h p.2 p.1 p.5 went.3) ∙ none)
        | inr closed ↦
            (let some : [] ≡ op_of m.thread (as_serial closed.3.0) ∷ entries_of p.2 = sym none ∙ entries_return h p.2 p.1 m.thread its.before.done closed.3.0 p.5 closed.3.1 in
            absurd cc)
      ]
    ]

idle_none : (u : List Move) (s end : State) (t : ℕ) (h : List Event) → IsQuiet s → AllBy t u → Leads s u end h → entries_of h ≡ [] → (end ≡ s) ⊎ HasOpen end t
idle_none [] s end t h quiet by p none = inl p.0
idle_none (m ∷ u) s end t h quiet by p none =
    let its = step_stepped s m p.0 p.1 p.3 in
    elim its.kind as (λ _. (end ≡ s) ⊎ HasOpen end t) [
      | inl called ↦ inr (open_none u p.0 end t p.2 (subst (HasOpen p.0) by.0 (its.after, its.is, called.1)) by.1 p.4 (sym (entries_call h p.2 p.1 m.thread its.before.done p.5 called.3) ∙ none))
      | inr other ↦ elim other as (λ _. (end ≡ s) ⊎ HasOpen end t) [
        | inl went ↦ absurd (quiet m.thread (its.before, its.was, went.0))
        | inr closed ↦ absurd (quiet m.thread (its.before, its.was, closed.0))
      ]
    ]

-- ---- which operations are open

pub only_next : (s : State) (m : Move) (new : State) (e : Option Event) → (by : Stepped s m new e) → OpensOnly s m.thread → OpensOnly new m.thread
only_next s m new e by only x h =
    elim (same_or_not x m.thread) [ inl same ↦ same | inr apart ↦ only x (open_before s m new e by x apart h) ]

quiet_next : (s : State) (m : Move) (new : State) (e : Option Event) → (by : Stepped s m new e) → by.after.activity ≡ Idle → OpensOnly s m.thread → IsQuiet new
quiet_next s m new e by idle only x h =
    elim (same_or_not x m.thread) [
      | inl same ↦ open_busy new m.thread by.after by.is (subst (HasOpen new) same h) idle
      | inr apart ↦ apart (only x (open_before s m new e by x apart h))
    ]

pub may_go_on : (s : State) (m : Move) (new : State) (e : Option Event) (n : ℕ) → Step s m new e → OpensOnly s m.thread → MayGoOn new m.thread (returned_by e) n
may_go_on s m new e n step only =
    let its = step_stepped s m new e step in
    elim its.kind as (λ _. MayGoOn new m.thread (returned_by e) n) [
      | inl called ↦ subst (λ x. MayGoOn new m.thread (returned_by x) n) (sym called.3) (only_next s m new e its only, inl (its.after, its.is, called.1))
      | inr other ↦ elim other as (λ _. MayGoOn new m.thread (returned_by e) n) [
        | inl went ↦ subst (λ x. MayGoOn new m.thread (returned_by x) n) (sym went.3) (only_next s m new e its only, inl (its.after, its.is, went.1))
        | inr closed ↦ subst (λ x. MayGoOn new m.thread (returned_by x) n) (sym closed.3.1) tt
      ]
    ]

-- ---- the first move

ends_on : (t : ℕ) (end : State) (h k : List Event) (o : SerialOutcome) → entries_of h ≡ entries_of k → EndsSo t end h o → EndsSo t end k o
ends_on t end h k o same (inl x) = inl (x.0, sym same ∙ x.1)
ends_on t end h k o same (inr x) = inr (x.0, x.1, x.2, sym same ∙ x.3)

module _ (s : State) (m : Move) (next : State) (e : Option Event) (step : Step s m next e) (only : OpensOnly s m.thread) where
  its : Stepped s m next e
  its = step_stepped s m next e step

  went_on : (u : List Move) (end : State) (h k : List Event) (o : SerialOutcome) → AllBy m.thread u → Leads next u end k → entries_of h ≡ entries_of k → EndsSo m.thread end h o → Comes next m.thread o end
  went_on u end h k o by leads same ends = record { moves = u; by = by; history = k; leads = leads; ends = ends_on m.thread end h k o same ends }

  closed_at : (u : List Move) (end : State) (h k : List Event) (o out : SerialOutcome) → its.after.activity ≡ Idle → AllBy m.thread u → Leads next u end k → entries_of h ≡ op_of m.thread out ∷ entries_of k → EndsSo m.thread end h o → (o ≡ out) × (end ≡ next)
  closed_at u end h k o out idle by leads same (inl x) =
      let both : op_of m.thread o ∷ [] ≡ op_of m.thread out ∷ entries_of k = sym x.1 ∙ same in
      let none : entries_of k ≡ [] = cc in
      let ops : op_of m.thread o ≡ op_of m.thread out = cc in
      (ap (λ (y : SerialOp). y.outcome) ops, elim (idle_none u next end m.thread k (quiet_next s m next e its idle only) by leads none) [ inl is ↦ is | inr busy ↦ absurd (x.0 m.thread busy) ])
  closed_at u end h k o out idle by leads same (inr x) = (let both : [] ≡ op_of m.thread out ∷ entries_of k = sym x.3 ∙ same in absurd cc)

  gives_next : (u : List Move) (end : State) (h k : List Event) (o : SerialOutcome) → AllBy m.thread u → Leads next u end k → h ≡ with_event e k → EndsSo m.thread end h o → Gives next m.thread (returned_by e) o end
  gives_next u end h k o by leads is ends =
      elim its.kind as (λ _. Gives next m.thread (returned_by e) o end) [
        | inl called ↦ subst (λ x. Gives next m.thread (returned_by x) o end) (sym called.3) (went_on u end h k o by leads (entries_call h k e m.thread its.before.done is called.3) ends)
        | inr other ↦ elim other as (λ _. Gives next m.thread (returned_by e) o end) [
          | inl went ↦ subst (λ x. Gives next m.thread (returned_by x) o end) (sym went.3) (went_on u end h k o by leads (entries_none h k e is went.3) ends)
          | inr closed ↦ subst (λ x. Gives next m.thread (returned_by x) o end) (sym closed.3.1) (closed_at u end h k o (as_serial closed.3.0) closed.1 by leads (entries_return h k e m.thread its.before.done closed.3.0 is closed.3.1) ends)
        ]
      ]

  back_on : (o : SerialOutcome) (end : State) → ((h : List Event) → entries_of (with_event e h) ≡ entries_of h) → Comes next m.thread o end → Comes s m.thread o end
  back_on o end same c = record {
    moves = m ∷ c.moves;
    by = (refl, c.by);
    history = with_event e c.history;
    leads = (next, e, c.history, step, c.leads, refl);
    ends = ends_on m.thread end c.history (with_event e c.history) o (sym (same c.history)) c.ends;
  }

  -- what comes after the first move comes of the whole
  pub gives_back : (o : SerialOutcome) (end : State) → Gives next m.thread (returned_by e) o end → Comes s m.thread o end
  gives_back o end g =
      elim its.kind as (λ _. Comes s m.thread o end) [
        | inl called ↦ back_on o end (λ h. ap (λ x. entries_of (with_event x h)) called.3) (subst (λ x. Gives next m.thread (returned_by x) o end) called.3 g)
        | inr other ↦ elim other as (λ _. Comes s m.thread o end) [
          | inl went ↦ back_on o end (λ h. ap (λ x. entries_of (with_event x h)) went.3) (subst (λ x. Gives next m.thread (returned_by x) o end) went.3 g)
          | inr closed ↦
              (let is : (o ≡ as_serial closed.3.0) × (end ≡ next) = subst (λ x. Gives next m.thread (returned_by x) o end) closed.3.1 g in
              record {
                moves = m ∷ [];
                by = (refl, tt);
                history = with_event e [];
                leads = (next, e, [], step, (is.1, refl), refl);
                ends = inl (
                  subst IsQuiet (sym is.1) (quiet_next s m next e its closed.1 only),
                  entries_return (with_event e []) [] e m.thread its.before.done closed.3.0 refl closed.3.1 ∙ ap (λ x. op_of m.thread x ∷ []) (sym is.0),
                );
              })
        ]
      ]

  lasts_next : (n : ℕ) (u : List Move) (end : State) (h k : List Event) → AllBy m.thread u → length u ≡ n → Leads next u end k → h ≡ with_event e k → HasOpen end m.thread → entries_of h ≡ [] → 0 < picks_of end m.thread → StillLasts next m.thread (returned_by e) n
  lasts_next n u end h k by long leads is still none enabled =
      elim its.kind as (λ _. StillLasts next m.thread (returned_by e) n) [
        | inl called ↦ subst (λ x. StillLasts next m.thread (returned_by x) n) (sym called.3) (record { moves = u; by = by; long = long; end = end; history = k; leads = leads; still = still; none = sym (entries_call h k e m.thread its.before.done is called.3) ∙ none; enabled = enabled })
        | inr other ↦ elim other as (λ _. StillLasts next m.thread (returned_by e) n) [
          | inl went ↦ subst (λ x. StillLasts next m.thread (returned_by x) n) (sym went.3) (record { moves = u; by = by; long = long; end = end; history = k; leads = leads; still = still; none = sym (entries_none h k e is went.3) ∙ none; enabled = enabled })
          | inr closed ↦ (let both : [] ≡ op_of m.thread (as_serial closed.3.0) ∷ entries_of k = sym none ∙ entries_return h k e m.thread its.before.done closed.3.0 is closed.3.1 in absurd cc)
        ]
      ]

  lasts_on : (n left : ℕ) → left ≡ suc n → ((h : List Event) → entries_of (with_event e h) ≡ entries_of h) → Lasts next m.thread n → Lasts s m.thread left
  lasts_on n left is same l =
      (let long = l.long in record {
        moves = m ∷ l.moves;
        by = (refl, l.by);
        long = omega (arith, long, is);
        end = l.end;
        history = with_event e l.history;
        leads = (next, e, l.history, step, l.leads, refl);
        still = l.still;
        none = same l.history ∙ l.none;
        enabled = l.enabled;
      })

  -- what lasts after the first move lasts on the whole
  pub lasts_back : (n left : ℕ) → left ≡ suc n → StillLasts next m.thread (returned_by e) n → Lasts s m.thread left
  lasts_back n left is l =
      elim its.kind as (λ _. Lasts s m.thread left) [
        | inl called ↦ lasts_on n left is (λ h. ap (λ x. entries_of (with_event x h)) called.3) (subst (λ x. StillLasts next m.thread (returned_by x) n) called.3 l)
        | inr other ↦ elim other as (λ _. Lasts s m.thread left) [
          | inl went ↦ lasts_on n left is (λ h. ap (λ x. entries_of (with_event x h)) went.3) (subst (λ x. StillLasts next m.thread (returned_by x) n) went.3 l)
          | inr closed ↦ absurd (subst (λ x. StillLasts next m.thread (returned_by x) n) closed.3.1 l)
        ]
      ]

-- what comes of an operation comes of it after some first move
comes_by : (u : List Move) (s : State) (t : ℕ) (o : SerialOutcome) (end : State) (h : List Event) → OpensOnly s t → 0 < picks_of s t → AllBy t u → Leads s u end h → EndsSo t end h o → ComesBelow s t (picks_of s t) o end
comes_by [] s t o end h only some by p (inl x) = (let e : [] ≡ op_of t o ∷ [] = sym (ap entries_of p.1) ∙ x.1 in absurd cc)
comes_by [] s t o end h only some by p (inr x) = (let e : picks_of s t ≡ 0 = ap (λ y. picks_of y t) (sym p.0) ∙ x.2 in absurd (omega (arith, e, some)))
comes_by (m ∷ u) s t o end h only some by p ends =
    subst (λ x. OpensOnly s x → AllBy x u → EndsSo x end h o → ComesBelow s x (picks_of s x) o end) by.0
    (λ only_m by_m ends_m. record {
      pick = m.pick;
      below = step_feasible s m p.0 p.1 p.3;
      next = p.0;
      event = p.1;
      step = p.3;
      gives = gives_next s m p.0 p.1 p.3 only_m u end h p.2 o by_m p.4 p.5 ends_m;
    }) only by.1 ends

pub comes_first : (s : State) (t : ℕ) (o : SerialOutcome) (end : State) → OpensOnly s t → 0 < picks_of s t → Comes s t o end → ComesBelow s t (picks_of s t) o end
comes_first s t o end only some c = comes_by c.moves s t o end c.history only some c.by c.leads c.ends

-- so does what lasts
pub record LastsBelow (s : State) (t n : ℕ) : Type 0 where
  pub pick : ℕ
  pub below : pick < picks_of s t
  pub next : State
  pub event : Option Event
  pub step : Step s (record { thread = t; pick = pick }) next event
  pub lasts : StillLasts next t (returned_by event) n

lasts_by : (u : List Move) (s : State) (t n : ℕ) (end : State) (h : List Event) → OpensOnly s t → length u ≡ suc n → AllBy t u → Leads s u end h → HasOpen end t → entries_of h ≡ [] → 0 < picks_of end t → LastsBelow s t n
lasts_by [] s t n end h only long by p still none enabled = absurd (omega (arith, long))
lasts_by (m ∷ u) s t n end h only long by p still none enabled =
    let shorter : length u ≡ n = omega (arith, long) in
    subst (λ x. OpensOnly s x → AllBy x u → HasOpen end x → 0 < picks_of end x → LastsBelow s x n) by.0
    (λ only_m by_m still_m enabled_m. record {
      pick = m.pick;
      below = step_feasible s m p.0 p.1 p.3;
      next = p.0;
      event = p.1;
      step = p.3;
      lasts = lasts_next s m p.0 p.1 p.3 only_m n u end h p.2 by_m shorter p.4 p.5 still_m none enabled_m;
    }) only by.1 still enabled

pub lasts_first : (s : State) (t n : ℕ) → OpensOnly s t → Lasts s t (suc n) → LastsBelow s t n
lasts_first s t n only l = lasts_by l.moves s t n l.end l.history only l.long l.by l.leads l.still l.none l.enabled

-- ---- where the thread is blocked

no_first : (s : State) (t : ℕ) (m : Move) (next : State) (e : Option Event) → m.thread ≡ t → picks_of s t ≡ 0 → Step s m next e → ⊥
no_first s t m next e by none step =
    let f : m.pick < picks_of s m.thread = step_feasible s m next e step in
    let z : picks_of s m.thread ≡ 0 = ap (picks_of s) by ∙ none in
    omega (arith, f, z)

lasts_none : (u : List Move) (s : State) (t : ℕ) (end : State) (h : List Event) → picks_of s t ≡ 0 → AllBy t u → Leads s u end h → 0 < picks_of end t → ⊥
lasts_none [] s t end h none by p enabled = (let e : picks_of end t ≡ 0 = ap (λ x. picks_of x t) p.0 ∙ none in omega (arith, e, enabled))
lasts_none (m ∷ u) s t end h none by p enabled = no_first s t m p.0 p.1 by.0 none p.3

comes_blocked : (u : List Move) (s : State) (t : ℕ) (o : SerialOutcome) (end : State) (h : List Event) → picks_of s t ≡ 0 → AllBy t u → Leads s u end h → EndsSo t end h o → (o ≡ Stuck) × (end ≡ s)
comes_blocked [] s t o end h none by p (inl x) = (let e : [] ≡ op_of t o ∷ [] = sym (ap entries_of p.1) ∙ x.1 in absurd cc)
comes_blocked [] s t o end h none by p (inr x) = (x.0, p.0)
comes_blocked (m ∷ u) s t o end h none by p ends = absurd (no_first s t m p.0 p.1 by.0 none p.3)

blocked_comes : (s : State) (t : ℕ) → HasOpen s t → picks_of s t ≡ 0 → Comes s t Stuck s
blocked_comes s t busy none = record { moves = []; by = tt; history = []; leads = (refl, refl); ends = inr (refl, busy, none, refl) }

-- ---- lists of endings

pub among_left : {A : Type 0} (x : A) (xs ys : List A) → IsAmong x xs → IsAmong x (xs ++ ys)
among_left x [] ys h = absurd h
among_left x (y ∷ xs) ys (inl e) = inl e
among_left x (y ∷ xs) ys (inr h) = inr (among_left x xs ys h)

pub among_right : {A : Type 0} (x : A) (xs ys : List A) → IsAmong x ys → IsAmong x (xs ++ ys)
among_right x [] ys h = h
among_right x (y ∷ xs) ys h = inr (among_right x xs ys h)

pub among_cases : {A : Type 0} (x : A) (xs ys : List A) → IsAmong x (xs ++ ys) → IsAmong x xs ⊎ IsAmong x ys
among_cases x [] ys h = inr h
among_cases x (y ∷ xs) ys (inl e) = inl (inl e)
among_cases x (y ∷ xs) ys (inr h) = elim (among_cases x xs ys h) [ inl a ↦ inl (inr a) | inr b ↦ inr b ]

pub among_one : {A : Type 0} (x y : A) → IsAmong x (y ∷ []) → x ≡ y
among_one x y (inl e) = e
among_one x y (inr h) = absurd h

module _ (c : Component) (matrix : Matrix) (old : List Ending) (Leading : SerialOutcome → State → Type 0) where
  pub grows_push : (x : Ending) → CanStandAt c matrix x.position → ((o : SerialOutcome) (end : State) → Leading o end → (o ≡ x.outcome) × (end ≡ state_at c matrix x.position)) → Leading x.outcome (state_at c matrix x.position) → Grows c matrix old (old ++ x ∷ []) Leading
  grows_push x stands is leads = record {
    stay = λ o end h. (h.0, among_left (record { outcome = o; position = h.0 }) old (x ∷ []) h.1, h.2);
    all = λ o end l.
        (let both = is o end l in
        (x.position, among_right (record { outcome = o; position = x.position }) old (x ∷ []) (inl (ap (λ (y : SerialOutcome). record { outcome = y; position = x.position }) both.0)), sym both.1));
    each = λ o end h. elim (among_cases (record { outcome = o; position = h.0 }) old (x ∷ []) h.1) [
      | inl a ↦ inl (h.0, a, h.2)
      | inr b ↦
          (let e : record { outcome = o; position = h.0 } ≡ x = among_one (record { outcome = o; position = h.0 }) x b in
          let end_is : state_at c matrix x.position ≡ end = ap (λ (y : Ending). state_at c matrix y.position) (sym e) ∙ h.2 in
          inr (subst (λ y. Leading y end) (ap (λ (y : Ending). y.outcome) (sym e)) (subst (Leading x.outcome) end_is leads)))
    ];
    stand = λ all ending h. elim (among_cases ending old (x ∷ []) h) [
      | inl a ↦ all ending a
      | inr b ↦ subst (λ (y : Ending). CanStandAt c matrix y.position) (sym (among_one ending x b)) stands
    ];
  }

-- ---- the goals

pub adds_returned : (s : State) (t : ℕ) (o : SerialOutcome) (n : ℕ) (old : List Ending) (x : Ending) → x.outcome ≡ o → state_at s.component s.matrix x.position ≡ s → CanStandAt s.component s.matrix x.position → AddsEndings s t (Some o) n old (old ++ x ∷ [])
adds_returned s t o n old x is here stands = record {
  short = λ b. b;
  some = (o, s, (refl, refl));
  grows = grows_push s.component s.matrix old (Gives s t (Some o)) x stands (λ p end l. (l.0 ∙ sym is, l.1 ∙ sym here)) (is, here);
}

pub adds_blocked : (s : State) (t n : ℕ) (old : List Ending) (x : Ending) → x.outcome ≡ Stuck → state_at s.component s.matrix x.position ≡ s → CanStandAt s.component s.matrix x.position → picks_of s t ≡ 0 → MayGoOn s t None n → AddsEndings s t None n old (old ++ x ∷ [])
adds_blocked s t n old x is here stands none may =
    let busy : HasOpen s t = elim may.1 [ inl b ↦ b | inr some ↦ (let lt = some.0 in absurd (omega (arith, lt, none))) ] in
    record {
      short = λ l. lasts_none l.moves s t l.end l.history none l.by l.leads l.enabled;
      some = (Stuck, s, blocked_comes s t busy none);
      grows = grows_push s.component s.matrix old (Gives s t None) x stands
          (λ p end l. (let both = comes_blocked l.moves s t p end l.history none l.by l.leads l.ends in (both.0 ∙ sym is, both.1 ∙ sym here)))
          (subst (λ y. Comes s t y (state_at s.component s.matrix x.position)) (sym is) (subst (Comes s t Stuck) (sym here) (blocked_comes s t busy none)));
    }

pub below_none : (s : State) (t n : ℕ) (old : List Ending) → AddsBelow s t 0 n old old
below_none s t n old = record {
  short = λ pick next event lt. absurd (omega (arith, lt));
  some = λ lt. absurd (omega (arith, lt));
  grows = record {
    stay = λ o end h. h;
    all = λ o end l. (let lt = l.below in absurd (omega (arith, lt)));
    each = λ o end h. inl h;
    stand = λ all. all;
  };
}

module _ (s : State) (t k n : ℕ) (old mid new : List Ending) (next : State) (event : Option Event) (below : AddsBelow s t k n old mid) (step : Step s (record { thread = t; pick = k }) next event) where
  component_is : next.component ≡ s.component
  component_is = (step_turned s (record { thread = t; pick = k }) next event step).component

  matrix_is : next.matrix ≡ s.matrix
  matrix_is = (step_turned s (record { thread = t; pick = k }) next event step).matrix

  module _ (adds : AddsEndings next t (returned_by event) n mid new) where
    more : Grows s.component s.matrix mid new (Gives next t (returned_by event))
    more = subst (λ x. Grows x s.matrix mid new (Gives next t (returned_by event))) component_is (subst (λ x. Grows next.component x mid new (Gives next t (returned_by event))) matrix_is adds.grows)

    here_or_below : (pick : ℕ) → pick < k + 1 → (pick < k) ⊎ (pick ≡ k)
    here_or_below pick lt = elim (cases_lt pick k) [ inl a ↦ inl a | inr b ↦ inr (omega (arith, lt, b)) ]

    at_here : (pick : ℕ) (to : State) (e : Option Event) → pick ≡ k → Step s (record { thread = t; pick = pick }) to e → (to ≡ next) × (e ≡ event)
    at_here pick to e is st = step_same s (record { thread = t; pick = k }) to next e event (subst (λ (x : ℕ). Step s (record { thread = t; pick = x }) to e) is st) step

    pub below_more : AddsBelow s t (k + 1) n old new
    below_more = record {
      short = λ pick to e lt st still. elim (here_or_below pick lt) [
        | inl a ↦ below.short pick to e a st still
        | inr b ↦ (let same = at_here pick to e b st in adds.short (subst (λ x. StillLasts next t (returned_by x) n) same.1 (subst (λ x. StillLasts x t (returned_by e) n) same.0 still)))
      ];
      some = λ lt. (let g = adds.some in (g.0, g.1, record { pick = k; below = omega arith; next = next; event = event; step = step; gives = g.2 }));
      grows = record {
        stay = λ o end h. more.stay o end (below.grows.stay o end h);
        all = λ o end l. elim (here_or_below l.pick l.below) [
          | inl a ↦ more.stay o end (below.grows.all o end (record { pick = l.pick; below = a; next = l.next; event = l.event; step = l.step; gives = l.gives }))
          | inr b ↦ (let same = at_here l.pick l.next l.event b l.step in more.all o end (subst (λ x. Gives next t (returned_by x) o end) same.1 (subst (λ x. Gives x t (returned_by l.event) o end) same.0 l.gives)))
        ];
        each = λ o end h. elim (more.each o end h) [
          | inl a ↦ elim (below.grows.each o end a) [
            | inl x ↦ inl x
            | inr l ↦ (let lt = l.below in inr (record { pick = l.pick; below = omega (arith, lt); next = l.next; event = l.event; step = l.step; gives = l.gives }))
          ]
          | inr g ↦ inr (record { pick = k; below = omega arith; next = next; event = event; step = step; gives = g })
        ];
        stand = λ all. more.stand (below.grows.stand all);
      };
    }

pub below_all : (s : State) (t k n left : ℕ) (old new : List Ending) → OpensOnly s t → 0 < picks_of s t → k ≡ picks_of s t → left ≡ suc n → AddsBelow s t k n old new → AddsEndings s t None left old new
below_all s t k n left old new only some is long below = record {
  short = λ l.
      (let first = lasts_first s t n only (subst (Lasts s t) long l) in
      let lt = first.below in
      below.short first.pick first.next first.event (omega (arith, lt, is)) first.step first.lasts);
  some =
      (let g = below.some (omega (arith, some, is)) in
      let l = g.2 in
      (g.0, g.1, gives_back s (record { thread = t; pick = l.pick }) l.next l.event l.step only g.0 g.1 l.gives));
  grows = record {
    stay = below.grows.stay;
    all = λ o end g. below.grows.all o end (subst (λ x. ComesBelow s t x o end) (sym is) (comes_first s t o end only some g));
    each = λ o end h. elim (below.grows.each o end h) [
      | inl x ↦ inl x
      | inr l ↦ inr (gives_back s (record { thread = t; pick = l.pick }) l.next l.event l.step only o end l.gives)
    ];
    stand = below.grows.stand;
  };
}

-- no move is left, and the operation could go on
pub none_left : (s : State) (t : ℕ) → MayGoOn s t None 0 → 0 < picks_of s t → Lasts s t 0
none_left s t may enabled =
    let busy : HasOpen s t = elim may.1 [ inl b ↦ b | inr some ↦ (let lt = some.1 in absurd (omega (arith, lt))) ] in
    record { moves = []; by = tt; long = refl; end = s; history = []; leads = (refl, refl); still = busy; none = refl; enabled = enabled }

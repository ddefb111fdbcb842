-- A call may be made earlier, and a return later: no other thread sees either.
use Rattle.std.proofs.Common.{arith, ◌≡◌, ℕ, zero, suc, ◌+◌, false, List, [], ◌∷◌, ◌++◌, length, Option, Some, None, slice_get, slice_set, refl, sym, ◌∙◌, ap, subst}
use Rattle.std.proofs.lemmas.Bool.{ne_eqb}
use Rattle.lu_component.specs.Component.{Component}
use Rattle.lu_test.specs.declared.schedule.Move.{Move}
use Rattle.lu_test.specs.Matrix.{Matrix}
use Rattle.lu_machine.specs.declared.event.Event.{Event}
use Rattle.lu_machine.specs.declared.event.Event.TheVariants.{Call, Return}
use Rattle.lu_machine.specs.declared.event.Outcome.{Outcome}
use Rattle.lu_machine.specs.declared.thread.Activity.{Activity}
use Rattle.lu_machine.specs.declared.thread.Activity.TheVariants.{Idle, Open}
use Rattle.lu_machine.specs.declared.thread.Thread.{Thread}
use Rattle.lu_machine.specs.Effects.{Effect}
use Rattle.lu_machine.specs.Effects.Effect.{GoesOn, Ends}
use Rattle.lu_machine.specs.Runs.{Leads, with_event}
use Rattle.lu_machine.specs.States.{State, with_standing}
use Rattle.lu_machine.specs.Steps.{Step, event_after, owns, thread_after}
use Rattle.lu_machine.proofs.Keeping.{Moved, Turns, step_moved}
use Rattle.lu_machine.proofs.Undoing.{moved_there}
use Rattle.lu_history.specs.Histories.{thread_of}
use Rattle.lu_recorded.specs.declared.recorded.Recorded.{Recorded}
use Rattle.lu_conform.specs.Showing.{HasPendingCall, IsShownBy}
use Rattle.lu_conform.specs.Stretching.{IsStretchedBy, IsStretchedOnce, MayStretch, StretchedIsPlayed}
use Rattle.lu_conform.proofs.Elsewhere.{among, call_there, done_among, elsewhere, return_there, step_owns}

-- ---- lists that are set at two places

set_other : {A : Type 0} (xs : List A) (i j : ℕ) (x : A) → (i ≡ j → ⊥) → slice_get (slice_set xs i x) j ≡ slice_get xs j
set_other [] i j x h = refl
set_other (z ∷ xs) zero zero x h = absurd (h refl)
set_other (z ∷ xs) zero (suc j) x h = refl
set_other (z ∷ xs) (suc i) zero x h = refl
set_other (z ∷ xs) (suc i) (suc j) x h = set_other xs i j x (λ e. h (ap suc e))

set_both : {A : Type 0} (xs : List A) (i j : ℕ) (x y : A) → (i ≡ j → ⊥) → slice_set (slice_set xs i x) j y ≡ slice_set (slice_set xs j y) i x
set_both [] i j x y h = refl
set_both (z ∷ xs) zero zero x y h = absurd (h refl)
set_both (z ∷ xs) zero (suc j) x y h = refl
set_both (z ∷ xs) (suc i) zero x y h = refl
set_both (z ∷ xs) (suc i) (suc j) x y h = ap (λ l. z ∷ l) (set_both xs i j x y (λ e. h (ap suc e)))

-- ---- two moves

-- of a state's component and matrix, with the rest of another
by_parts : (s new : State) → new.component ≡ s.component → new.matrix ≡ s.matrix → (threads : List Thread) → elsewhere s new.cells new.locks threads ≡ among new threads
by_parts s new c m threads =
    let make : Component → Matrix → State = λ d x. record { component = d; matrix = x; cells = new.cells; locks = new.locks; threads = threads } in
    ap (λ d. make d s.matrix) (sym c) ∙ ap (λ x. make new.component x) (sym m)

-- two moves in the other order
pub record Swapped (s : State) (a b : Move) (end : State) (e f : Option Event) : Type 0 where
  pub mid : State
  pub first : Step s b mid f
  pub second : Step mid a end e

-- a call is made earlier
pub call_earlier : (s s1 s2 : State) (a b : Move) (e : Option Event) (t k : ℕ) → Step s a s1 e → Step s1 b s2 (Some (Call t k)) → (a.thread ≡ b.thread → ⊥) → Swapped s a b s2 e (Some (Call t k))
call_earlier s s1 s2 a b e t k one two differ =
    let moved = step_moved s a s1 e one in
    let stands : slice_get s.threads b.thread ≡ slice_get s1.threads b.thread =
    sym (ap (λ (l : List Thread). slice_get l b.thread) moved.threads ∙ set_other s.threads a.thread b.thread moved.now differ) in
    let call = call_there s1 s.cells s.locks s.threads b t k s2 two stands in
    let first : Step s b (with_standing s b.thread call.now) (Some (Call t k)) =
    subst (λ z. Step z b (with_standing s b.thread call.now) (Some (Call t k))) (by_parts s1 s (sym moved.component) (sym moved.matrix) s.threads)
    (subst (λ z. Step (elsewhere s1 s.cells s.locks s.threads) b z (Some (Call t k))) (by_parts s1 s (sym moved.component) (sym moved.matrix) (slice_set s.threads b.thread call.now)) call.step) in
    let ts = slice_set s.threads b.thread call.now in
    let same : slice_get ts a.thread ≡ slice_get s.threads a.thread = set_other s.threads b.thread a.thread call.now (λ x. differ (sym x)) in
    let on = done_among s ts a s1 e same one in
    let threads : slice_set ts a.thread on.now ≡ slice_set s1.threads b.thread call.now =
    set_both s.threads b.thread a.thread call.now on.now (λ x. differ (sym x)) ∙ ap (λ (l : List Thread). slice_set l b.thread call.now) (sym on.threads_are) in
    let end : among s1 (slice_set ts a.thread on.now) ≡ s2 = ap (λ (l : List Thread). among s1 l) threads ∙ sym call.is in
    record { mid = with_standing s b.thread call.now; first = first; second = subst (λ z. Step (with_standing s b.thread call.now) a z e) end on.step }

-- a return is made later
pub return_later : (s s1 s2 : State) (a b : Move) (t k : ℕ) (o : Outcome) (f : Option Event) → Step s a s1 (Some (Return t k o)) → Step s1 b s2 f → (a.thread ≡ b.thread → ⊥) → Swapped s a b s2 (Some (Return t k o)) f
return_later s s1 s2 a b t k o f one two differ =
    let itself = return_there s s.cells s.locks s.threads a t k o s1 one refl (λ l h. h) in
    let first_is : s1 ≡ with_standing s a.thread itself.now = itself.is in
    let back : among s1 s.threads ≡ s = ap (λ z. among z s.threads) first_is in
    let stands : slice_get s.threads b.thread ≡ slice_get s1.threads b.thread =
    sym (ap (λ (z : State). slice_get z.threads b.thread) first_is ∙ set_other s.threads a.thread b.thread itself.now differ) in
    let on = done_among s1 s.threads b s2 f stands two in
    let mid = among s2 (slice_set s.threads b.thread on.now) in
    let first : Step s b mid f = subst (λ z. Step z b mid f) back on.step in
    let moved = step_moved s1 b s2 f two in
    let component : s2.component ≡ s.component = moved.component ∙ ap (λ (z : State). z.component) first_is in
    let matrix_is : s2.matrix ≡ s.matrix = moved.matrix ∙ ap (λ (z : State). z.matrix) first_is in
    let there : slice_get (slice_set s.threads b.thread on.now) a.thread ≡ slice_get s.threads a.thread = set_other s.threads b.thread a.thread on.now (λ x. differ (sym x)) in
    let keeps : (l : ℕ) → owns s a.thread l ≡ false → owns (elsewhere s s2.cells s2.locks (slice_set s.threads b.thread on.now)) a.thread l ≡ false =
    λ l none. step_owns s1 b s2 f a.thread l (ne_eqb b.thread a.thread (λ x. differ (sym x))) (ap (λ (z : State). owns z a.thread l) first_is ∙ none) two in
    let last = return_there s s2.cells s2.locks (slice_set s.threads b.thread on.now) a t k o s1 one there keeps in
    let from : elsewhere s s2.cells s2.locks (slice_set s.threads b.thread on.now) ≡ mid = by_parts s s2 component matrix_is (slice_set s.threads b.thread on.now) in
    let to : elsewhere s s2.cells s2.locks (slice_set (slice_set s.threads b.thread on.now) a.thread last.now) ≡ s2 =
    by_parts s s2 component matrix_is (slice_set (slice_set s.threads b.thread on.now) a.thread last.now)
    ∙ ap (λ (l : List Thread). among s2 l) (set_both s.threads b.thread a.thread on.now last.now (λ x. differ (sym x))
    ∙ (ap (λ (l : List Thread). slice_set l b.thread on.now) (ap (λ (z : State). z.threads) (sym last.is)) ∙ sym on.threads_are)) in
    record { mid = mid; first = first; second = subst (λ z. Step z a s2 (Some (Return t k o))) from (subst (λ z. Step (elsewhere s s2.cells s2.locks (slice_set s.threads b.thread on.now)) a z (Some (Return t k o))) to last.step) }

-- ---- which threads move

-- an event is one of its move's thread
event_thread : (s : State) (t done : ℕ) (a : Activity) (now : Thread) (e : Event) → Turns s t done a now (Some e) → thread_of e ≡ t
event_thread s t done Idle now e h = subst (λ (x : Event). thread_of x ≡ t) (sym (some_same e (Call t done) h.4)) refl
  where
    some_same : (x y : Event) → Some x ≡ Some y → x ≡ y
    some_same x y p = cc
event_thread s t done (Open f) now e h = by h.0 h.2
  where
    by : (effect : Effect) → Some e ≡ event_after t done effect → thread_of e ≡ t
    by (GoesOn g) p = absurd (cc)
    by (Ends o) p = let same : e ≡ Return t done o = cc in subst (λ (x : Event). thread_of x ≡ t) (sym same) refl

pub moved_by : (s : State) (m : Move) (new : State) (e : Event) → Step s m new (Some e) → thread_of e ≡ m.thread
moved_by s m new e step =
    let moved = step_moved s m new (Some e) step in
    event_thread s m.thread moved.standing.done moved.standing.activity moved.now e moved.turns

-- where a thread stands that makes a call, or has made one return
idle_before : (s : State) (t done : ℕ) (a : Activity) (now : Thread) (u k : ℕ) → Turns s t done a now (Some (Call u k)) → a ≡ Idle
idle_before s t done Idle now u k h = refl
idle_before s t done (Open f) now u k h = absurd (by h.0 h.2)
  where
    by : (effect : Effect) → Some (Call u k) ≡ event_after t done effect → ⊥
    by (GoesOn g) p = cc
    by (Ends o) p = cc

open_behind : (s : State) (t done : ℕ) (a : Activity) (now : Thread) → Turns s t done a now None → now.activity ≡ Idle → ⊥
open_behind s t done Idle now h is = (let wrong = h.4 in cc)
open_behind s t done (Open f) now h is = by h.0 h.1 h.2
  where
    by : (effect : Effect) → now ≡ thread_after done effect → None ≡ event_after t done effect → ⊥
    by (GoesOn g) p q = let wrong : Idle ≡ Open g = sym is ∙ ap (λ (x : Thread). x.activity) p in cc
    by (Ends o) p q = cc

idle_none : (s : State) (t done : ℕ) (a : Activity) (now : Thread) → a ≡ Idle → Turns s t done a now None → ⊥
idle_none s t done Idle now is h = let wrong = h.4 in cc
idle_none s t done (Open f) now is h = cc

idle_after : (s : State) (t done : ℕ) (a : Activity) (now : Thread) (u k : ℕ) (o : Outcome) → Turns s t done a now (Some (Return u k o)) → now.activity ≡ Idle
idle_after s t done Idle now u k o h = absurd (let wrong = h.4 in cc)
idle_after s t done (Open f) now u k o h = by h.0 h.1 h.2
  where
    by : (effect : Effect) → now ≡ thread_after done effect → Some (Return u k o) ≡ event_after t done effect → now.activity ≡ Idle
    by (GoesOn g) p q = absurd (cc)
    by (Ends o) p q = ap (λ (x : Thread). x.activity) p

-- two moves of one thread, of which the second one's thread stands where the first has left it
then_stands : (s s1 : State) (a b : Move) (e f : Option Event) (s2 : State) (one : Moved s a s1 e) (two : Moved s1 b s2 f) → a.thread ≡ b.thread → two.standing ≡ one.now
then_stands s s1 a b e f s2 one two same =
    let there : slice_get s1.threads a.thread ≡ Some one.now = ap (λ (l : List Thread). slice_get l a.thread) one.threads ∙ moved_there s a.thread one.now one.standing one.stands in
    let here : slice_get s1.threads a.thread ≡ Some two.standing = subst (λ i. slice_get s1.threads i ≡ Some two.standing) (sym same) two.stands in
    let both : Some two.standing ≡ Some one.now = sym here ∙ there in
    cc

-- a move without an event and a call after it are of different threads
call_apart : (s s1 s2 : State) (a b : Move) (t k : ℕ) → Step s a s1 None → Step s1 b s2 (Some (Call t k)) → a.thread ≡ b.thread → ⊥
call_apart s s1 s2 a b t k one two same =
    let first = step_moved s a s1 None one in
    let second = step_moved s1 b s2 (Some (Call t k)) two in
    let idle = idle_before s1 b.thread second.standing.done second.standing.activity second.now t k second.turns in
    open_behind s a.thread first.standing.done first.standing.activity first.now first.turns
    (sym (ap (λ (x : Thread). x.activity) (then_stands s s1 a b None (Some (Call t k)) s2 first second same)) ∙ idle)

-- and so are a return and a move without an event after it
return_apart : (s s1 s2 : State) (a b : Move) (t k : ℕ) (o : Outcome) → Step s a s1 (Some (Return t k o)) → Step s1 b s2 None → a.thread ≡ b.thread → ⊥
return_apart s s1 s2 a b t k o one two same =
    let first = step_moved s a s1 (Some (Return t k o)) one in
    let second = step_moved s1 b s2 None two in
    let idle = idle_after s a.thread first.standing.done first.standing.activity first.now t k o first.turns in
    idle_none s1 b.thread second.standing.done second.standing.activity second.now
    (ap (λ (x : Thread). x.activity) (then_stands s s1 a b (Some (Return t k o)) None s2 first second same) ∙ idle) second.turns

-- ---- along schedules

-- a schedule of so many moves leads there
abbrev pub LeadsBy : State → ℕ → State → List Event → Type 0
LeadsBy s n end h = (v : List Move) × (length v ≡ n) × Leads s v end h

-- the next call is made first
record CallFirst (s : State) (u : List Move) (end : State) (t k : ℕ) (back : List Event) : Type 0 where
  call : Move
  mid : State
  first : Step s call mid (Some (Call t k))
  rest : List Move
  length_is : length rest + 1 ≡ length u
  on : Leads mid rest end back

module _ (t k : ℕ) (back : List Event) (end : State) where
  call_first : (u : List Move) (s : State) → Leads s u end (Call t k ∷ back) → CallFirst s u end t k back
  call_first [] s leads = absurd (let wrong = leads.1 in cc)
  call_first (m ∷ u) s leads = by (call_first u leads.0) leads.1 leads.3 leads.5
    where
      by : (Leads leads.0 u end (Call t k ∷ back) → CallFirst leads.0 u end t k back) → (event : Option Event) → Step s m leads.0 event → Call t k ∷ back ≡ with_event event leads.2 → CallFirst s (m ∷ u) end t k back
      by go None step is =
          let on : Leads leads.0 u end (Call t k ∷ back) = subst (Leads leads.0 u end) (sym is) leads.4 in
          let later = go on in
          let swap = call_earlier s leads.0 later.mid m later.call None t k step later.first (call_apart s leads.0 later.mid m later.call t k step later.first) in
          record {
            call = later.call;
            mid = swap.mid;
            first = swap.first;
            rest = m ∷ later.rest;
            length_is = (let n = later.length_is in omega (arith, n));
            on = (later.mid, None, back, swap.second, later.on, refl);
          }
      by go (Some e) step is =
          let same : e ≡ Call t k = (let i : Call t k ∷ back ≡ e ∷ leads.2 = is in cc) in
          let rest : leads.2 ≡ back = (let i : Call t k ∷ back ≡ e ∷ leads.2 = is in cc) in
          record {
            call = m;
            mid = leads.0;
            first = subst (λ x. Step s m leads.0 (Some x)) same step;
            rest = u;
            length_is = omega arith;
            on = subst (Leads leads.0 u end) rest leads.4;
          }

module _ (t k : ℕ) (o : Outcome) (second : Event) (back : List Event) (end : State) (apart : t ≡ thread_of second → ⊥) where
  -- a return is made after the next event
  return_last : (u : List Move) (s : State) (m : Move) (s1 : State) → Step s m s1 (Some (Return t k o)) → Leads s1 u end (second ∷ back) → LeadsBy s (length (m ∷ u)) end (second ∷ Return t k o ∷ back)
  return_last [] s m s1 step leads = absurd (let wrong = leads.1 in cc)
  return_last (b ∷ u) s m s1 step leads = by (λ mid. return_last u mid m leads.0) leads.1 leads.3 leads.5
    where
      by : ((mid : State) → Step mid m leads.0 (Some (Return t k o)) → Leads leads.0 u end (second ∷ back) → LeadsBy mid (length (m ∷ u)) end (second ∷ Return t k o ∷ back)) → (event : Option Event) → Step s1 b leads.0 event → second ∷ back ≡ with_event event leads.2 → LeadsBy s (length (m ∷ b ∷ u)) end (second ∷ Return t k o ∷ back)
      by go None two is =
          let swap = return_later s s1 leads.0 m b t k o None step two (return_apart s s1 leads.0 m b t k o step two) in
          let rest = go swap.mid swap.second (subst (Leads leads.0 u end) (sym is) leads.4) in
          (b ∷ rest.0, (let n = rest.1 in omega (arith, n)), (swap.mid, None, second ∷ Return t k o ∷ back, swap.first, rest.2, refl))
      by go (Some e) two is =
          let same : e ≡ second = (let i : second ∷ back ≡ e ∷ leads.2 = is in cc) in
          let rest : leads.2 ≡ back = (let i : second ∷ back ≡ e ∷ leads.2 = is in cc) in
          let differ : m.thread ≡ b.thread → ⊥ =
          λ x. apart (moved_by s m s1 (Return t k o) step ∙ (x ∙ (sym (moved_by s1 b leads.0 e two) ∙ ap thread_of same))) in
          let swap = return_later s s1 leads.0 m b t k o (Some e) step two differ in (
            b ∷ m ∷ u,
            refl,
            (
              swap.mid,
              Some second,
              Return t k o ∷ back,
              subst (λ x. Step s b swap.mid (Some x)) same swap.first,
              (leads.0, Some (Return t k o), back, swap.second, subst (Leads leads.0 u end) rest leads.4, refl),
              refl,
            ),
          )

-- where two such events come next
stretch_here : (first second : Event) → MayStretch first second → (back : List Event) (end : State) (s : State) (m : Move) (s1 : State) (u : List Move) → Step s m s1 (Some first) → Leads s1 u end (second ∷ back) → LeadsBy s (length (m ∷ u)) end (second ∷ first ∷ back)
stretch_here (Return t k o) second may back end s m s1 u step leads =
    return_last t k o second back end (apart second may) u s m s1 step leads
  where
    apart : (e : Event) → MayStretch (Return t k o) e → t ≡ thread_of e → ⊥
    apart (Call r l) h x = h x
    apart (Return r l p) h x = h x
stretch_here (Call t k) (Return r l o) may back end s m s1 u step leads = absurd may
stretch_here (Call t k) (Call r l) may back end s m s1 u step leads =
    let later = call_first r l back end u s1 leads in
    let differ : m.thread ≡ later.call.thread → ⊥ = λ x. may (moved_by s m s1 (Call t k) step ∙ (x ∙ sym (moved_by s1 later.call later.mid (Call r l) later.first))) in
    let swap = call_earlier s s1 later.mid m later.call (Some (Call t k)) r l step later.first differ in (
      later.call ∷ m ∷ later.rest,
      (let n = later.length_is in omega (arith, n)),
      (swap.mid, Some (Call r l), Call t k ∷ back, swap.first, (later.mid, Some (Call t k), back, swap.second, later.on, refl), refl),
    )

module _ (first second : Event) (may : MayStretch first second) (back : List Event) (end : State) where
  stretch_once : (u : List Move) (s : State) (front : List Event) → Leads s u end (front ++ first ∷ second ∷ back) → LeadsBy s (length u) end (front ++ second ∷ first ∷ back)
  stretch_once [] s [] leads = absurd (let wrong = leads.1 in cc)
  stretch_once [] s (e ∷ front) leads = absurd (let wrong = leads.1 in cc)
  stretch_once (m ∷ u) s front leads = by (stretch_once u leads.0) front leads.1 leads.3 leads.5
    where
      by : ((f : List Event) → Leads leads.0 u end (f ++ first ∷ second ∷ back) → LeadsBy leads.0 (length u) end (f ++ second ∷ first ∷ back)) → (f : List Event) (event : Option Event) → Step s m leads.0 event → f ++ first ∷ second ∷ back ≡ with_event event leads.2 → LeadsBy s (length (m ∷ u)) end (f ++ second ∷ first ∷ back)
      by go f None step is =
          let rest = go f (subst (Leads leads.0 u end) (sym is) leads.4) in
          (m ∷ rest.0, (let n = rest.1 in omega (arith, n)), (leads.0, None, f ++ second ∷ first ∷ back, step, rest.2, refl))
      by go [] (Some e) step is =
          let same : e ≡ first = (let i : first ∷ second ∷ back ≡ e ∷ leads.2 = is in cc) in
          let rest : leads.2 ≡ second ∷ back = (let i : first ∷ second ∷ back ≡ e ∷ leads.2 = is in cc) in
          stretch_here first second may back end s m leads.0 u (subst (λ x. Step s m leads.0 (Some x)) same step) (subst (Leads leads.0 u end) rest leads.4)
      by go (x ∷ f) (Some e) step is =
          let same : e ≡ x = (let i : x ∷ (f ++ first ∷ second ∷ back) ≡ e ∷ leads.2 = is in cc) in
          let behind : leads.2 ≡ f ++ first ∷ second ∷ back = (let i : x ∷ (f ++ first ∷ second ∷ back) ≡ e ∷ leads.2 = is in cc) in
          let rest = go f (subst (Leads leads.0 u end) behind leads.4) in
          (m ∷ rest.0, (let n = rest.1 in omega (arith, n)), (leads.0, Some x, f ++ second ∷ first ∷ back, subst (λ y. Step s m leads.0 (Some y)) same step, rest.2, refl))

stretch_by : (n : ℕ) (s end : State) (u : List Move) (h k : List Event) → IsStretchedBy n h k → Leads s u end h → LeadsBy s (length u) end k
stretch_by zero s end u h k is leads = (u, refl, subst (Leads s u end) is leads)
stretch_by (suc n) s end u h k (g, once, more) leads =
    let one = stretch_once once.first once.second once.may once.back end u s once.front (subst (Leads s u end) once.before leads) in
    let rest = stretch_by n s end one.0 g k more (subst (Leads s one.0 end) (sym once.after) one.2) in
    (rest.0, rest.1 ∙ one.1, rest.2)

pub stretched_is_played : StretchedIsPlayed
stretched_is_played c matrix u end h k n (start, is, leads) stretched =
    let v = stretch_by n start end u h k stretched leads in
    (v.0, v.1, (start, is, v.2))

-- ---- the calls that are pending stay

exchanged_at : (front : List Event) (x y : Event) (back : List Event) (i : ℕ) (e : Event) → slice_get (front ++ y ∷ x ∷ back) i ≡ Some e → (j : ℕ) × (slice_get (front ++ x ∷ y ∷ back) j ≡ Some e)
exchanged_at [] x y back zero e h = (suc zero, h)
exchanged_at [] x y back (suc zero) e h = (zero, h)
exchanged_at [] x y back (suc (suc i)) e h = (suc (suc i), h)
exchanged_at (z ∷ front) x y back zero e h = (zero, h)
exchanged_at (z ∷ front) x y back (suc i) e h = let there = exchanged_at front x y back i e h in (suc there.0, there.1)

-- what stands somewhere in one of them stands somewhere in the other
still_at : (h k : List Event) → IsStretchedOnce h k → (i : ℕ) (e : Event) → slice_get k i ≡ Some e → (j : ℕ) × (slice_get h j ≡ Some e)
still_at h k once i e at =
    let there = exchanged_at once.front once.first once.second once.back i e (subst (λ (l : List Event). slice_get l i ≡ Some e) once.after at) in
    (there.0, subst (λ (l : List Event). slice_get l there.0 ≡ Some e) (sym once.before) there.1)

then_at : (h k : List Event) → IsStretchedOnce h k → (i : ℕ) (e : Event) → slice_get h i ≡ Some e → (j : ℕ) × (slice_get k j ≡ Some e)
then_at h k once i e at =
    let there = exchanged_at once.front once.second once.first once.back i e (subst (λ (l : List Event). slice_get l i ≡ Some e) once.before at) in
    (there.0, subst (λ (l : List Event). slice_get l there.0 ≡ Some e) (sym once.after) there.1)

pending_once : (h k : List Event) → IsStretchedOnce h k → HasPendingCall k → HasPendingCall h
pending_once h k once (a, (called, never)) =
    (a, (still_at h k once called.0 (Call a.t a.k) called.1, (λ i is. (let there = then_at h k once i (Return a.t a.k is.0) is.1 in never there.0 (is.0, there.1)))))

pending_by : (n : ℕ) (h k : List Event) → IsStretchedBy n h k → HasPendingCall k → HasPendingCall h
pending_by zero h k is some = subst HasPendingCall (sym is) some
pending_by (suc n) h k (g, once, more) some = pending_once h g once (pending_by n g k more some)

pub stretched_is_shown : (c : Component) (matrix : Matrix) (recorded : Recorded) (u : List Move) (k : List Event) (n : ℕ) → IsShownBy c matrix recorded u → IsStretchedBy n recorded.history k → (v : List Move) × (length v ≡ length u) × IsShownBy c matrix (record recorded { history = k }) v
stretched_is_shown c matrix recorded u k n (end, plays, stuck) stretched =
    let v = stretched_is_played c matrix u end recorded.history k n plays stretched in
    (v.0, v.1, (end, v.2, (λ is some. stuck is (pending_by n recorded.history k stretched some))))

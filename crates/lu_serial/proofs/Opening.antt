-- Which operation is open, move by move.
use Rattle.std.proofs.Common.{◌≡◌, ◌≢◌, ◌+◌, ◌<◌, ◌≤◌, ℕ, zero, suc, ◌⊎◌, List, [], ◌∷◌, ◌++◌, length, Bool, true, false, get_or, slice_get, slice_set, Option, Some, None, refl, sym, ◌∙◌, ap, subst, inl, inr, arith, length-append}
use Rattle.std.proofs.lemmas.Bool.{cases_lt, lt-ltb}
use Rattle.std.proofs.lemmas.Option.{get_or_from_slice_get, same_Some, slice_get-map, slice_get_within}
use Rattle.std.specs.Option.{option_map}
use Rattle.lu_test.specs.declared.schedule.Move.{Move}
use Rattle.lu_test.specs.Matrix.{calls_of}
use Rattle.lu_machine.specs.States.{State, call_count, is_open, progress, progress_of}
use Rattle.lu_machine.specs.Steps.{Step, picks_of}
use Rattle.lu_machine.specs.Ends.{IsComplete, IsFinished}
use Rattle.lu_machine.specs.Runs.{Leads}
use Rattle.lu_machine.specs.declared.event.Outcome.{Outcome}
use Rattle.lu_machine.specs.declared.thread.Thread.{Thread}
use Rattle.lu_machine.specs.declared.thread.Activity.{Activity}
use Rattle.lu_machine.specs.declared.thread.Activity.TheVariants.{Idle, Open}
use Rattle.lu_machine.specs.declared.event.Event.{Event}
use Rattle.lu_machine.specs.declared.event.Event.TheVariants.{Call, Return}
use Rattle.lu_machine.proofs.Keeping.{Turns, step_moved}
use Rattle.lu_machine.proofs.Progress.{Way, step_goes}
use Rattle.lu_machine.proofs.Progress.Way.{opens as way_opens, goes_on as way_goes_on, ends as way_ends}
use Rattle.lu_machine.proofs.Paths.{leads_on}
use Rattle.lu_serial.specs.declared.node.OpenCall.{OpenCall}
use Rattle.lu_serial.specs.Serial.{HasOpen, IsByOpen, HasTaken}
use Rattle.lu_serial.specs.Walks.{IsOpenIn, IsFull, HasTakenOf, open_after}

pub slice_get_set_same : {A : Type 0} (xs : List A) (i : ℕ) (x y : A) → slice_get xs i ≡ Some y → slice_get (slice_set xs i x) i ≡ Some x
slice_get_set_same [] i x y h = cc
slice_get_set_same (z ∷ xs) zero x y h = refl
slice_get_set_same (z ∷ xs) (suc i) x y h = slice_get_set_same xs i x y h

pub slice_get_set_other : {A : Type 0} (xs : List A) (i j : ℕ) (x : A) → (j ≡ i → ⊥) → slice_get (slice_set xs i x) j ≡ slice_get xs j
slice_get_set_other [] i j x h = refl
slice_get_set_other (z ∷ xs) zero zero x h = absurd (h refl)
slice_get_set_other (z ∷ xs) zero (suc j) x h = refl
slice_get_set_other (z ∷ xs) (suc i) zero x h = refl
slice_get_set_other (z ∷ xs) (suc i) (suc j) x h = slice_get_set_other xs i j x (λ e. h (ap suc e))

-- an idle thread opens its next call, or an open operation goes on or ends
abbrev pub How : State → ℕ → Thread → Thread → Option Event → Type 0
How s t before after event =
    ((before.activity ≡ Idle) × (after.activity ≢ Idle) × (after.done ≡ before.done) × (event ≡ Some (Call t before.done)) × (before.done < call_count s t))
    ⊎ (((before.activity ≢ Idle) × (after.activity ≢ Idle) × (after.done ≡ before.done) × (event ≡ None))
    ⊎ ((before.activity ≢ Idle) × (after.activity ≡ Idle) × (after.done ≡ before.done + 1) × ((outcome : Outcome) × (event ≡ Some (Return t before.done outcome)))))

-- what a move does to its thread
pub record Turned (s : State) (m : Move) (new : State) (event : Option Event) : Type 0 where
  pub before : Thread
  pub after : Thread
  pub stands : slice_get s.threads m.thread ≡ Some before
  pub threads : new.threads ≡ slice_set s.threads m.thread after
  pub matrix : new.matrix ≡ s.matrix
  pub component : new.component ≡ s.component
  pub how : How s m.thread before after event

idle_of : (a : Activity) → is_open a ≡ false → a ≡ Idle
idle_of Idle e = refl
idle_of (Open f) e = cc

busy_of : (a : Activity) → is_open a ≡ true → a ≢ Idle
busy_of Idle e f = cc
busy_of (Open g) e f = cc

call_of_turn : (s : State) (t done : ℕ) (activity : Activity) (now : Thread) (event : Option Event) → activity ≡ Idle → Turns s t done activity now event → done < call_count s t
call_of_turn s t done Idle now event is h = slice_get_within (calls_of s.matrix t) done h.0 h.1
call_of_turn s t done (Open f) now event is h = cc

way_how : (s : State) (t : ℕ) (before after : Thread) (event : Option Event) (was now : ℕ × Bool) → was ≡ progress_of before → now ≡ progress_of after → (before.activity ≡ Idle → before.done < call_count s t) → Way t was now event → How s t before after event
way_how s t before after event was now e f left (way_opens k w n is) =
    let p : (before.done, is_open before.activity) ≡ (k, false) = sym e ∙ w in
    let q : (after.done, is_open after.activity) ≡ (k, true) = sym f ∙ n in
    let idle = idle_of before.activity (ap (λ x. x.1) p) in
    inl (idle, busy_of after.activity (ap (λ x. x.1) q), ap (λ x. x.0) q ∙ sym (ap (λ x. x.0) p), is ∙ ap (λ (j : ℕ). Some (Call t j)) (sym (ap (λ x. x.0) p)), left idle)
way_how s t before after event was now e f left (way_goes_on k w n is) =
    let p : (before.done, is_open before.activity) ≡ (k, true) = sym e ∙ w in
    let q : (after.done, is_open after.activity) ≡ (k, true) = sym f ∙ n in
    inr (inl (busy_of before.activity (ap (λ x. x.1) p), busy_of after.activity (ap (λ x. x.1) q), ap (λ x. x.0) q ∙ sym (ap (λ x. x.0) p), is))
way_how s t before after event was now e f left (way_ends k outcome w n is) =
    let p : (before.done, is_open before.activity) ≡ (k, true) = sym e ∙ w in
    let q : (after.done, is_open after.activity) ≡ (k + 1, false) = sym f ∙ n in
    inr (inr (
      busy_of before.activity (ap (λ x. x.1) p),
      idle_of after.activity (ap (λ x. x.1) q),
      ap (λ x. x.0) q ∙ ap (λ (j : ℕ). j + 1) (sym (ap (λ x. x.0) p)),
      (outcome, is ∙ ap (λ (j : ℕ). Some (Return t j outcome)) (sym (ap (λ x. x.0) p))),
    ))

pub step_turned : (s : State) (m : Move) (new : State) (event : Option Event) → Step s m new event → Turned s m new event
step_turned s m new event h =
    let moved = step_moved s m new event h in
    let goes = step_goes s m new event h in
    let at : slice_get (progress s) m.thread ≡ Some (progress_of moved.standing) = slice_get-map progress_of s.threads m.thread ∙ ap (option_map progress_of) moved.stands in
    let was : get_or (progress s) m.thread (0, false) ≡ progress_of moved.standing = get_or_from_slice_get (progress s) m.thread (progress_of moved.standing) (0, false) at in
    let here : slice_get new.threads m.thread ≡ Some moved.now = ap (λ x. slice_get x m.thread) moved.threads ∙ slice_get_set_same s.threads m.thread moved.now moved.standing moved.stands in
    let there : slice_get (progress new) m.thread ≡ Some (progress_of moved.now) = slice_get-map progress_of new.threads m.thread ∙ ap (option_map progress_of) here in
    let written : slice_get (progress new) m.thread ≡ Some goes.now = ap (λ x. slice_get x m.thread) goes.progress_is ∙ slice_get_set_same (progress s) m.thread goes.now (progress_of moved.standing) at in
    let now : goes.now ≡ progress_of moved.now = same_Some goes.now (progress_of moved.now) (sym written ∙ there) in
    record {
      before = moved.standing;
      after = moved.now;
      stands = moved.stands;
      threads = moved.threads;
      matrix = moved.matrix;
      component = moved.component;
      how = way_how s m.thread moved.standing moved.now event (get_or (progress s) m.thread (0, false)) goes.now was now
          (λ idle. call_of_turn s m.thread moved.standing.done moved.standing.activity moved.now event idle moved.turns) goes.way;
    }

pub same_or_not : (i j : ℕ) → (i ≡ j) ⊎ (i ≡ j → ⊥)
same_or_not i j =
    elim (cases_lt i j) [
      | inl a ↦ inr (λ e. omega arith)
      | inr a ↦ elim (cases_lt j i) [ inl b ↦ inr (λ e. omega arith) | inr b ↦ inl (omega arith) ]
    ]

module _ (s : State) (m : Move) (new : State) (event : Option Event) (t : Turned s m new event) where
  -- another thread's operation is open as before
  pub others : (i : ℕ) → (i ≡ m.thread → ⊥) → HasOpen new i → HasOpen s i
  others i apart h = (h.0, sym (slice_get_set_other s.threads m.thread i t.after apart) ∙ (ap (λ x. slice_get x i) (sym t.threads) ∙ h.1), h.2)

  here_new : slice_get new.threads m.thread ≡ Some t.after
  here_new = ap (λ x. slice_get x m.thread) t.threads ∙ slice_get_set_same s.threads m.thread t.after t.before t.stands

  pub opens_new : t.after.activity ≢ Idle → HasOpen new m.thread
  opens_new busy = (t.after, here_new, busy)

  pub open_before : t.before.activity ≢ Idle → HasOpen s m.thread
  open_before busy = (t.before, t.stands, busy)

  idle_here : (x : Thread) → slice_get s.threads m.thread ≡ Some x → t.before.activity ≡ Idle → x.activity ≡ Idle
  idle_here x is idle = let e : x ≡ t.before = (let a = t.stands in cc) in ap (λ (y : Thread). y.activity) e ∙ idle

  -- an idle thread moves only where nothing is open
  pub none_open : t.before.activity ≡ Idle → IsByOpen s m → (i : ℕ) → HasOpen s i → ⊥
  none_open idle by i h = h.2 (idle_here h.0 (ap (slice_get s.threads) (by i h) ∙ h.1) idle)

  new_idle : t.after.activity ≡ Idle → HasOpen new m.thread → ⊥
  new_idle idle h = (let e : h.0 ≡ t.after = (let a = here_new in let b = h.1 in cc) in h.2 (ap (λ (y : Thread). y.activity) e ∙ idle))

  open_on : (current : Option OpenCall) → IsOpenIn s current → IsByOpen s m → t.before.activity ≢ Idle → t.after.activity ≢ Idle → IsOpenIn new (open_after current m.thread None)
  open_on None opens by busy on = absurd (opens m.thread (open_before busy))
  open_on (Some o) opens by busy on =
      let same : m.thread ≡ o.thread = opens.1 m.thread (open_before busy) in
      (subst (HasOpen new) same (opens_new on), (λ i h. elim (same_or_not i m.thread) [ inl e ↦ e ∙ same | inr e ↦ opens.1 i (others i e h) ]))

  pub one_open : (current : Option OpenCall) → IsOpenIn s current → IsByOpen s m → IsOpenIn new (open_after current m.thread event)
  one_open current opens by =
      elim t.how [
        | inl h ↦ subst (λ e. IsOpenIn new (open_after current m.thread e)) (sym h.3) (opens_new h.1, (λ i k. elim (same_or_not i m.thread) [ inl e ↦ e | inr e ↦ absurd (none_open h.0 by i (others i e k)) ]))
        | inr h ↦ elim h [
          | inl h ↦ subst (λ e. IsOpenIn new (open_after current m.thread e)) (sym h.3) (open_on current opens by h.0 h.1)
          | inr h ↦ subst (λ e. IsOpenIn new (open_after current m.thread e)) (sym h.3.1) (λ i k. elim (same_or_not i m.thread) [
            | inl e ↦ new_idle h.1 (subst (HasOpen new) e k)
            | inr e ↦ (let f = by i (others i e k) in e (sym f))
          ])
        ]
      ]

  -- an operation that is open stays so where no event comes
  pub silent_keeps : event ≡ None → (i : ℕ) → HasOpen s i → HasOpen new i
  silent_keeps none i h =
      elim (same_or_not i m.thread) [
        | inl e ↦ elim t.how [
          | inl x ↦ absurd (let a = x.3 in cc)
          | inr x ↦ elim x [
            | inl x ↦ subst (HasOpen new) (sym e) (opens_new x.1)
            | inr x ↦ absurd (let a = x.3.1 in cc)
          ]
        ]
        | inr e ↦ (h.0, ap (λ x. slice_get x i) t.threads ∙ (slice_get_set_other s.threads m.thread i t.after e ∙ h.1), h.2)
      ]

  pub call_opens : (i k : ℕ) → event ≡ Some (Call i k) → HasOpen new i
  call_opens i k is =
      elim t.how [
        | inl x ↦ (let e : m.thread ≡ i = (let a = x.3 in cc) in subst (HasOpen new) e (opens_new x.1))
        | inr x ↦ elim x [
          | inl x ↦ absurd (let a = x.3 in cc)
          | inr x ↦ absurd (let a = x.3.1 in cc)
        ]
      ]

  module _ (start : State) (u : List Move) (history : List Event) (leads : Leads start u s history) (step : Step s m new event) where
    taken_call : (k : ℕ) → event ≡ Some (Call m.thread k) → HasTaken start (u ++ m ∷ []) new m.thread 0
    taken_call k is = record {
      called = new;
      after = [];
      call = record { before = u; move = m; parts = refl; idle = s; history = history; begins = leads; number = k; step = subst (Step s m new) is step };
      count = refl;
      goes_on = (refl, refl);
    }

    pub taken_more : (i n : ℕ) → event ≡ None → HasTaken start u s i n → HasTaken start (u ++ m ∷ []) new i (n + 1)
    taken_more i n is h = record {
      called = h.called;
      after = h.after ++ m ∷ [];
      call = record {
        before = h.call.before;
        move = h.call.move;
        parts = ap (λ x. x ++ m ∷ []) h.call.parts ∙ parts_of h.call.before h.call.move h.after;
        idle = h.call.idle;
        history = h.call.history;
        begins = h.call.begins;
        number = h.call.number;
        step = h.call.step;
      };
      count = (let a : length (h.after ++ m ∷ []) ≡ length h.after + 1 = length-append h.after (m ∷ []) in let b = h.count in omega arith);
      goes_on = leads_on h.called h.after (m ∷ []) s new [] [] h.goes_on (new, None, [], subst (Step s m new) is step, (refl, refl), refl);
    }
      where
        parts_of : (x : List Move) (y : Move) (z : List Move) → (x ++ y ∷ z) ++ m ∷ [] ≡ x ++ y ∷ (z ++ m ∷ [])
        parts_of [] y z = refl
        parts_of (w ∷ x) y z = ap (λ v. w ∷ v) (parts_of x y z)

    taken_on : (bound : ℕ) (current : Option OpenCall) → event ≡ None → (IsFull current bound → ⊥) → HasTakenOf start u s bound current → HasTakenOf start (u ++ m ∷ []) new bound (open_after current m.thread None)
    taken_on bound None is room h = tt
    taken_on bound (Some o) is room h = (taken_more o.thread o.taken is h.0, (elim (cases_lt o.taken bound) [ inl lt ↦ omega arith | inr ge ↦ (let le = h.1 in absurd (room (omega arith))) ]))

    pub taken_after : (bound : ℕ) (current : Option OpenCall) → (IsFull current bound → ⊥) → HasTakenOf start u s bound current → HasTakenOf start (u ++ m ∷ []) new bound (open_after current m.thread event)
    taken_after bound current room h =
        elim t.how [
          | inl x ↦ subst (λ e. HasTakenOf start (u ++ m ∷ []) new bound (open_after current m.thread e)) (sym x.3) (taken_call t.before.done x.3, omega arith)
          | inr x ↦ elim x [
            | inl x ↦ subst (λ e. HasTakenOf start (u ++ m ∷ []) new bound (open_after current m.thread e)) (sym x.3) (taken_on bound current x.3 room h)
            | inr x ↦ subst (λ e. HasTakenOf start (u ++ m ∷ []) new bound (open_after current m.thread e)) (sym x.3.1) tt
          ]
        ]

-- where nothing is open and no thread has a move, all calls are made
idle_or_not : (activity : Activity) → (activity ≡ Idle) ⊎ (activity ≢ Idle)
idle_or_not Idle = inl refl
idle_or_not (Open f) = inr (λ e. cc)

idle_done : (s : State) (t : ℕ) (x : Thread) → slice_get s.threads t ≡ Some x → x.activity ≡ Idle → picks_of s t ≡ 0 → call_count s t ≤ x.done
idle_done s t x is idle h =
    elim (cases_lt x.done (call_count s t)) [
      | inl lt ↦ (let h' = rw (is, idle, lt-ltb x.done (call_count s t) lt) at h in absurd (omega (arith, h')))
      | inr ge ↦ ge
    ]

pub no_open_complete : (s : State) → ((t : ℕ) → HasOpen s t → ⊥) → ((t : ℕ) → picks_of s t ≡ 0) → IsComplete s
no_open_complete s none still t within = finished (slice_get s.threads t) refl
  where
    finished : (o : Option Thread) → slice_get s.threads t ≡ o → IsFinished s t
    finished None is = rw is tt
    finished (Some x) is =
        elim (idle_or_not x.activity) [
          | inl idle ↦ rw is (idle, idle_done s t x is idle (still t))
          | inr busy ↦ absurd (none t (x, is, busy))
        ]

pub complete_not_open : (s : State) → IsComplete s → (t : ℕ) → HasOpen s t → ⊥
complete_not_open s complete t h =
    let f = rw h.1 at (complete t (slice_get_within s.threads t h.0 h.1)) in
    h.2 f.0

-- What a move changes and what stays.
use Rattle.std.proofs.Common.{◌≡◌, ℕ, ◌+◌, ◌==◌, Bool, true, false, List, Option, Some, None, MatchOption, MatchBool, slice_get, slice_set, length, refl, ◌∙◌, ap, subst}
use Rattle.std.proofs.lemmas.List.{length-set, set-set}
use Rattle.lu_component.specs.declared.instr.Instr.{Instr}
use Rattle.lu_component.specs.declared.instr.Instr.TheVariants.{Set, Compute, Load, Store, Cas, Lock, Unlock, Await, AwaitNot, Pick, Jump, JumpIfZero, Return}
use Rattle.lu_test.specs.declared.matrix.Call.{Call}
use Rattle.lu_test.specs.declared.schedule.Move.{Move}
use Rattle.lu_test.specs.Matrix.{calls_of}
use Rattle.lu_machine.specs.declared.event.Event.{Event}
use Rattle.lu_machine.specs.declared.event.Event.TheVariants.{Call as Called}
use Rattle.lu_machine.specs.declared.event.Outcome.TheVariants.{Trap}
use Rattle.lu_machine.specs.declared.thread.Frame.{Frame}
use Rattle.lu_machine.specs.declared.thread.Activity.{Activity}
use Rattle.lu_machine.specs.declared.thread.Activity.TheVariants.{Idle, Open}
use Rattle.lu_machine.specs.Effects.{Effect}
use Rattle.lu_machine.specs.Effects.Effect.{GoesOn, Ends}
use Rattle.lu_machine.specs.declared.thread.Thread.{Thread}
use Rattle.lu_machine.specs.Effects.{value_of, onward, onward_with}
use Rattle.lu_machine.specs.States.{State, cell_at, value_at, with_cell, with_owner}
use Rattle.lu_machine.specs.Steps.{Carries, ByActivity, OneStep, Step, event_after, more_local, opened, owns, thread_after}
use Rattle.lu_machine.proofs.Running.{GoesOnTo, ran}
use Rattle.lu_machine.proofs.Undoing.{moved_there}

-- cells and locks may differ, and nothing else
pub record AreAlike (s new : State) : Type 0 where
  pub component : new.component ≡ s.component
  pub matrix : new.matrix ≡ s.matrix
  pub threads : new.threads ≡ s.threads

alike : (s new : State) → new ≡ s → AreAlike s new
alike s new is = record {
  component = ap (λ (x : State). x.component) is;
  matrix = ap (λ (x : State). x.matrix) is;
  threads = ap (λ (x : State). x.threads) is;
}

alike_cell : (s new : State) (p n : ℕ) → new ≡ with_cell s p n → AreAlike s new
alike_cell s new p n is = record {
  component = ap (λ (x : State). x.component) is;
  matrix = ap (λ (x : State). x.matrix) is;
  threads = ap (λ (x : State). x.threads) is;
}

alike_owner : (s new : State) (l : ℕ) (owner : Option ℕ) → new ≡ with_owner s l owner → AreAlike s new
alike_owner s new l owner is = record {
  component = ap (λ (x : State). x.component) is;
  matrix = ap (λ (x : State). x.matrix) is;
  threads = ap (λ (x : State). x.threads) is;
}

store_alike : (s new : State) (n : ℕ) (o : Option ℕ) (x y e : Effect) → MatchOption o ((new ≡ s) × (e ≡ x)) (λ p. (new ≡ with_cell s p n) × (e ≡ y)) → AreAlike s new
store_alike s new n None x y e h = alike s new h.0
store_alike s new n (Some p) x y e h = alike_cell s new p n h.0

match_alike : (s new : State) (t : Bool) (one : State) (x y e : Effect) → (new ≡ one → AreAlike s new) → MatchBool t ((new ≡ one) × (e ≡ x)) ((new ≡ s) × (e ≡ y)) → AreAlike s new
match_alike s new true one x y e changed h = changed h.0
match_alike s new false one x y e changed h = alike s new h.0

cas_alike : (s new : State) (f : Frame) (to v n : ℕ) (o : Option ℕ) (e : Effect) → MatchOption o ((new ≡ s) × (e ≡ Ends Trap)) (λ p. MatchBool (value_at s p == v) ((new ≡ with_cell s p n) × (e ≡ onward_with f to 1)) ((new ≡ s) × (e ≡ onward_with f to 0))) → AreAlike s new
cas_alike s new f to v n None e h = alike s new h.0
cas_alike s new f to v n (Some p) e h =
    match_alike s new (value_at s p == v) (with_cell s p n) (onward_with f to 1) (onward_with f to 0) e (alike_cell s new p n) h

pub carries_alike : (s : State) (m : Move) (f : Frame) (instr : Instr) (new : State) (e : Effect) → Carries s m f instr new e → AreAlike s new
carries_alike s m f (Set to v) new e h = alike s new h.0
carries_alike s m f (Compute by to x y) new e h = alike s new h.0
carries_alike s m f (Load to w i) new e h = alike s new h.0
carries_alike s m f (Store w i v) new e h =
    store_alike s new (value_of f v) (cell_at s f w i) (Ends Trap) (onward f) e h
carries_alike s m f (Cas to w i x y) new e h =
    cas_alike s new f to (value_of f x) (value_of f y) (cell_at s f w i) e h
carries_alike s m f (Lock l) new e h = alike_owner s new l (Some m.thread) h.1
carries_alike s m f (Unlock l) new e h =
    match_alike s new (owns s m.thread l) (with_owner s l None) (onward f) (Ends Trap) e (alike_owner s new l None) h
carries_alike s m f (Await w i v) new e h = alike s new h.0
carries_alike s m f (AwaitNot w i v) new e h = alike s new h.0
carries_alike s m f (Pick to count) new e h = alike s new h.0
carries_alike s m f (Jump target) new e h = alike s new h.0
carries_alike s m f (JumpIfZero v target) new e h = alike s new h.0
carries_alike s m f (Return v) new e h = alike s new h.0

-- Where thread t stands after its move, with which event: an idle one opens its next call and may go on in it, and an open operation goes on or ends.
abbrev pub Turns : State → ℕ → ℕ → Activity → Thread → Option Event → Type 0
Turns s t done Idle now event =
    (call : Call) × (slice_get (calls_of s.matrix t) done ≡ Some call)
    × (f : Frame) × (now ≡ record { done = done; activity = Open f }) × (event ≡ Some (Called t done))
Turns s t done (Open f) now event =
    (effect : Effect) × (now ≡ thread_after done effect) × (event ≡ event_after t done effect)

-- the move changes where its thread stands, and else cells and locks alone
pub record Moved (s : State) (m : Move) (new : State) (event : Option Event) : Type 0 where
  pub component : new.component ≡ s.component
  pub matrix : new.matrix ≡ s.matrix
  pub standing : Thread
  pub stands : slice_get s.threads m.thread ≡ Some standing
  pub now : Thread
  pub threads : new.threads ≡ slice_set s.threads m.thread now
  pub turns : Turns s m.thread standing.done standing.activity now event

activity_moved : (s : State) (m : Move) (standing : Thread) (stands : slice_get s.threads m.thread ≡ Some standing) (activity : Activity) → standing.activity ≡ activity → (new : State) (event : Option Event) → ByActivity s m standing.done activity new event → Moved s m new event
activity_moved s m standing stands Idle is new event h = record {
  component = ap (λ (x : State). x.component) h.3;
  matrix = ap (λ (x : State). x.matrix) h.3;
  standing = standing;
  stands = stands;
  now = record { done = standing.done; activity = Open (opened h.0) };
  threads = ap (λ (x : State). x.threads) h.3;
  turns = rw is (h.0, h.1, opened h.0, refl, h.4);
}
activity_moved s m standing stands (Open f) is new event h =
    let mid = carries_alike s m f h.0 h.1 h.2 h.5 in
    record {
      component = ap (λ (x : State). x.component) h.6 ∙ mid.component;
      matrix = ap (λ (x : State). x.matrix) h.6 ∙ mid.matrix;
      standing = standing;
      stands = stands;
      now = thread_after standing.done h.2;
      threads =
          ap (λ (x : State). x.threads) h.6
          ∙ ap (λ (x : List Thread). slice_set x m.thread (thread_after standing.done h.2)) mid.threads;
      turns = rw is (h.2, refl, h.7);
    }

one_moved : (s : State) (m : Move) (new : State) (event : Option Event) → OneStep s m new event → Moved s m new event
one_moved s m new event h = activity_moved s m h.0 h.1 h.0.activity refl new event h.2

-- a thread that runs on after its call or instruction has turned in the same way
effect_on : (t done : ℕ) (effect : Effect) (now end : Thread) (event : Option Event) → now ≡ thread_after done effect → event ≡ event_after t done effect → GoesOnTo now.done now.activity end → (then : Effect) × (end ≡ thread_after done then) × (event ≡ event_after t done then)
effect_on t done (GoesOn f) now end event is then goes =
    let on : GoesOnTo done (Open f) end = subst (λ (x : Thread). GoesOnTo x.done x.activity end) is goes in
    (GoesOn on.0, on.1, then)
effect_on t done (Ends outcome) now end event is then goes =
    let on : GoesOnTo (done + 1) Idle end = subst (λ (x : Thread). GoesOnTo x.done x.activity end) is goes in
    (Ends outcome, on, then)

turns_on : (s : State) (t done : ℕ) (activity : Activity) (now end : Thread) (event : Option Event) → Turns s t done activity now event → GoesOnTo now.done now.activity end → Turns s t done activity end event
turns_on s t done Idle now end event h goes =
    let on : GoesOnTo done (Open h.2) end = subst (λ (x : Thread). GoesOnTo x.done x.activity end) h.3 goes in
    (h.0, h.1, on.0, on.1, h.4)
turns_on s t done (Open f) now end event h goes = effect_on t done h.0 now end event h.1 h.2 goes

pub step_moved : (s : State) (m : Move) (new : State) (event : Option Event) → Step s m new event → Moved s m new event
step_moved s m new event h =
    let one = one_moved s m h.0 event h.1 in
    let there : slice_get h.0.threads m.thread ≡ Some one.now = ap (λ x. slice_get x m.thread) one.threads ∙ moved_there s m.thread one.now one.standing one.stands in
    let on = ran (more_local s m.thread) h.0 m.thread new one.now there h.2 in
    record {
      component = ap (λ (x : State). x.component) on.moved ∙ one.component;
      matrix = ap (λ (x : State). x.matrix) on.moved ∙ one.matrix;
      standing = one.standing;
      stands = one.stands;
      now = on.now;
      threads =
          ap (λ (x : State). x.threads) on.moved
          ∙ ap (λ (x : List Thread). slice_set x m.thread on.now) one.threads
          ∙ set-set s.threads m.thread one.now on.now;
      turns = turns_on s m.thread one.standing.done one.standing.activity one.now on.now event one.turns on.goes;
    }

pub step_keeps_threads : (s : State) (m : Move) (new : State) (event : Option Event) → Step s m new event → length new.threads ≡ length s.threads
step_keeps_threads s m new event h =
    let moved = step_moved s m new event h in
    rw moved.threads (length-set s.threads m.thread moved.now)

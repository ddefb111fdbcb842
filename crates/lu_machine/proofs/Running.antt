-- Local instructions: each changes where its thread stands, in its operation, and nothing else.
use Rattle.std.proofs.Common.{◌≡◌, ℕ, zero, suc, ◌+◌, ◌-◌, ◌<◌, ◌==◌, Bool, true, false, if◌then◌else◌, MatchBool, List, length, Option, Some, None, get_or, slice_get, slice_set, refl, sym, ◌∙◌, ap, subst, arith}
use Rattle.std.proofs.lemmas.List.{set-set}
use Rattle.std.proofs.lemmas.Bool.{lt-ltb}
use Rattle.std.proofs.lemmas.Option.{same_Some, slice_get-get_or}
use Rattle.std.specs.Option.{option_map_or}
use Rattle.lu_component.specs.declared.instr.Instr.{Instr}
use Rattle.lu_component.specs.declared.instr.Instr.TheVariants.{Set, Compute, Load, Store, Cas, Lock, Unlock, Await, AwaitNot, Pick, Jump, JumpIfZero, Return}
use Rattle.lu_test.specs.declared.schedule.Move.{Move}
use Rattle.lu_machine.specs.declared.event.Event.{Event}
use Rattle.lu_machine.specs.declared.event.Event.TheVariants.{Call as Called, Return as Returned}
use Rattle.lu_machine.specs.declared.thread.Frame.{Frame}
use Rattle.lu_machine.specs.declared.thread.Activity.{Activity}
use Rattle.lu_machine.specs.declared.thread.Activity.TheVariants.{Idle, Open}
use Rattle.lu_machine.specs.declared.thread.Thread.{Thread}
use Rattle.lu_machine.specs.declared.thread.OperationBefore.{OperationBefore}
use Rattle.lu_machine.specs.declared.undo.Undo.{Undo}
use Rattle.lu_machine.specs.Effects.{computed, value_of}
use Rattle.lu_machine.specs.Effects.Effect.{GoesOn}
use Rattle.lu_machine.specs.States.{State, instr_at, with_standing}
use Rattle.lu_machine.specs.Changes.{before}
use Rattle.lu_machine.specs.Undoes.{CanTake, has_local, restored, with_shared, with_thread_back}
use Rattle.lu_machine.specs.Steps.{Carries, IsFeasible, OneStep, RunsOn, activity_is_local, choices, is_at_local, is_local}
use Rattle.lu_machine.proofs.OneStepLaws.{one_feasible, one_same}
use Rattle.lu_machine.proofs.Undoing.{fits_still, moved_there, restored-component, stays, still_back}

-- of two operations that go on, the one that a test chooses goes on
if_goes_on : (b : Bool) (f g : Frame) → (h : Frame) × ((if b then GoesOn f else GoesOn g) ≡ GoesOn h)
if_goes_on true f g = (f, refl)
if_goes_on false f g = (g, refl)

-- a local instruction is carried out in one way, changes nothing but its operation, and does not end it
local_carries : (s : State) (m : Move) (f : Frame) (instr : Instr) → is_local instr ≡ true → (g : Frame) × Carries s m f instr s (GoesOn g) × (choices instr ≡ 1)
local_carries s m f (Set to v) h =
    (record f { place = f.place + 1; registers = slice_set f.registers to (value_of f v) }, (refl, refl), refl)
local_carries s m f (Compute by to a b) h =
    (record f { place = f.place + 1; registers = slice_set f.registers to (computed by (value_of f a) (value_of f b)) }, (refl, refl), refl)
local_carries s m f (Load to w i) h = cc
local_carries s m f (Store w i v) h = cc
local_carries s m f (Cas to w i x y) h = cc
local_carries s m f (Lock l) h = cc
local_carries s m f (Unlock l) h = cc
local_carries s m f (Await w i v) h = cc
local_carries s m f (AwaitNot w i v) h = cc
local_carries s m f (Pick to count) h = cc
local_carries s m f (Jump target) h = (record f { place = target }, (refl, refl), refl)
local_carries s m f (JumpIfZero v target) h =
    let on = if_goes_on (value_of f v == 0) (record f { place = target }) (record f { place = f.place + 1 }) in
    (on.0, (refl, sym on.1), refl)
local_carries s m f (Return v) h = cc

-- thread t carries out its next instruction, and its operation goes on
pub record GoesOnce (s : State) (t : ℕ) : Type 0 where
  pub standing : Thread
  pub stands : slice_get s.threads t ≡ Some standing
  pub before : Frame
  pub is_open : standing.activity ≡ Open before
  pub after : Frame
  pub step : OneStep s (record { thread = t; pick = 0 }) (with_standing s t (record { done = standing.done; activity = Open after })) None

instr_once : (s : State) (t : ℕ) (standing : Thread) → slice_get s.threads t ≡ Some standing → (f : Frame) → standing.activity ≡ Open f → (o : Option Instr) → instr_at s.component f.op f.place ≡ o → option_map_or is_local o false ≡ true → GoesOnce s t
instr_once s t standing stands f is None at h = cc
instr_once s t standing stands f is (Some instr) at h =
    let by = local_carries s (record { thread = t; pick = 0 }) f instr h in
    let one : choices instr ≡ 1 = by.2 in
    let some : 0 < choices instr = omega arith in
    record {
      standing = standing;
      stands = stands;
      before = f;
      is_open = is;
      after = by.0;
      step = (standing, stands, rw is (instr, s, GoesOn by.0, at, some, by.1, refl, refl));
    }

activity_once : (s : State) (t : ℕ) (standing : Thread) → slice_get s.threads t ≡ Some standing → (activity : Activity) → standing.activity ≡ activity → activity_is_local s activity ≡ true → GoesOnce s t
activity_once s t standing stands Idle is h = cc
activity_once s t standing stands (Open f) is h = instr_once s t standing stands f is (instr_at s.component f.op f.place) refl h

thread_once : (s : State) (t : ℕ) (o : Option Thread) → slice_get s.threads t ≡ o → option_map_or (λ thread. activity_is_local s thread.activity) o false ≡ true → GoesOnce s t
thread_once s t None stands h = cc
thread_once s t (Some standing) stands h = activity_once s t standing stands standing.activity refl h

pub local_once : (s : State) (t : ℕ) → is_at_local s t ≡ true → GoesOnce s t
local_once s t h = thread_once s t (slice_get s.threads t) refl h

-- a thread at a local instruction can be moved
pub local_feasible : (s : State) (t : ℕ) → is_at_local s t ≡ true → IsFeasible s (record { thread = t; pick = 0 })
local_feasible s t h =
    let once = local_once s t h in
    one_feasible s (record { thread = t; pick = 0 }) (with_standing s t (record { done = once.standing.done; activity = Open once.after })) None once.step

-- a thread runs on to one state
pub runs_same : (n : ℕ) (s : State) (t : ℕ) (a b : State) → RunsOn n s t a → RunsOn n s t b → a ≡ b
runs_same zero s t a b h k = h ∙ sym k
runs_same (suc n) s t a b h k = by_test (λ x. runs_same n x t a b) (is_at_local s t) h k
  where
    by_test : ((x : State) → RunsOn n x t a → RunsOn n x t b → a ≡ b) → (test : Bool) → MatchBool test ((next : State) × OneStep s (record { thread = t; pick = 0 }) next None × RunsOn n next t a) (a ≡ s) → MatchBool test ((next : State) × OneStep s (record { thread = t; pick = 0 }) next None × RunsOn n next t b) (b ≡ s) → a ≡ b
    by_test go true h k =
        let same = one_same s (record { thread = t; pick = 0 }) h.0 k.0 None None h.1 k.1 in
        go h.0 h.2 (subst (λ x. RunsOn n x t b) (sym same.0) k.2)
    by_test go false h k = h ∙ sym k

-- a thread runs on somewhere
pub runs_somewhere : (n : ℕ) (s : State) (t : ℕ) → (end : State) × RunsOn n s t end
runs_somewhere zero s t = (s, refl)
runs_somewhere (suc n) s t = by_test (λ x. runs_somewhere n x t) (is_at_local s t) refl
  where
    by_test : ((x : State) → (end : State) × RunsOn n x t end) → (test : Bool) → is_at_local s t ≡ test → (end : State) × MatchBool test ((next : State) × OneStep s (record { thread = t; pick = 0 }) next None × RunsOn n next t end) (end ≡ s)
    by_test go true is =
        let once = local_once s t is in
        let next = with_standing s t (record { done = once.standing.done; activity = Open once.after }) in
        let rest = go next in
        (rest.0, (next, once.step, rest.1))
    by_test go false is = (s, refl)

-- an open operation goes on, and an idle thread stands as it stood
abbrev pub GoesOnTo : ℕ → Activity → Thread → Type 0
GoesOnTo done Idle now = now ≡ record { done = done; activity = Idle }
GoesOnTo done (Open f) now = (g : Frame) × (now ≡ record { done = done; activity = Open g })

goes_nowhere : (done : ℕ) (activity : Activity) → GoesOnTo done activity (record { done = done; activity = activity })
goes_nowhere done Idle = refl
goes_nowhere done (Open f) = (f, refl)

-- thread t, which stood so, runs on in its operation, and nothing else changes
pub record Ran (s : State) (t : ℕ) (standing : Thread) (end : State) : Type 0 where
  pub now : Thread
  pub moved : end ≡ with_standing s t now
  pub goes : GoesOnTo standing.done standing.activity now

ran_nowhere : (s : State) (t : ℕ) (end : State) (standing : Thread) → slice_get s.threads t ≡ Some standing → end ≡ s → Ran s t standing end
ran_nowhere s t end standing stands is = record {
  now = standing;
  moved = is ∙ sym (stays s t standing stands);
  goes = goes_nowhere standing.done standing.activity;
}

pub ran : (n : ℕ) (s : State) (t : ℕ) (end : State) (standing : Thread) → slice_get s.threads t ≡ Some standing → RunsOn n s t end → Ran s t standing end
ran zero s t end standing stands h = ran_nowhere s t end standing stands h
ran (suc n) s t end standing stands h = by_test (ran n) (is_at_local s t) refl h
  where
    by_test : ((x : State) (t : ℕ) (end : State) (now : Thread) → slice_get x.threads t ≡ Some now → RunsOn n x t end → Ran x t now end) → (test : Bool) → is_at_local s t ≡ test → MatchBool test ((next : State) × OneStep s (record { thread = t; pick = 0 }) next None × RunsOn n next t end) (end ≡ s) → Ran s t standing end
    by_test go true is h =
        let once = local_once s t is in
        let same : standing ≡ once.standing = same_Some standing once.standing (sym stands ∙ once.stands) in
        let now : Thread = record { done = once.standing.done; activity = Open once.after } in
        let next = one_same s (record { thread = t; pick = 0 }) h.0 (with_standing s t now) None None h.1 once.step in
        let there : slice_get (with_standing s t now).threads t ≡ Some now = moved_there s t now standing stands in
        let rest = go (with_standing s t now) t end now there (subst (λ x. RunsOn n x t end) next.0 h.2) in
        let goes : GoesOnTo once.standing.done once.standing.activity rest.now = rw once.is_open rest.goes in
        record {
          now = rest.now;
          moved = rest.moved ∙ ap (λ (threads : List Thread). let z : State = record s { threads = threads } in z) (set-set s.threads t now rest.now);
          goes = subst (λ (x : Thread). GoesOnTo x.done x.activity rest.now) (sym same) goes;
        }
    by_test go false is h = ran_nowhere s t end standing stands h

-- no thread that is not there runs on
pub nowhere_runs : (n : ℕ) (s : State) (t : ℕ) (end : State) → slice_get s.threads t ≡ None → RunsOn n s t end → end ≡ s
nowhere_runs zero s t end none h = h
nowhere_runs (suc n) s t end none h = rw none at h

-- where thread t stands that is one of the threads
there_is : (s : State) (t : ℕ) (d : Thread) → t < length s.threads → slice_get s.threads t ≡ Some (get_or s.threads t d)
there_is s t d within = slice_get-get_or s.threads t d within

-- what puts a whole operation back does so wherever the thread has gone on to

same_activity : (event : Option Event) (was : OperationBefore) (done : ℕ) (activity : Activity) (on : Thread) → GoesOnTo done activity on → before true event was on ≡ before true event was (record { done = done; activity = activity })
same_activity (Some (Called t k)) was done Idle on is = rw is refl
same_activity (Some (Called t k)) was done (Open f) on is = rw is.1 refl
same_activity (Some (Returned t k outcome)) was done activity on is = refl
same_activity None was done Idle on is = rw is refl
same_activity None was done (Open f) on is = rw is.1 refl

-- a move whose thread ran on is taken back as before that
pub run_back : (s mid : State) (undo : Undo) (t n : ℕ) (end : State) → undo.thread ≡ t → has_local mid ≡ true → restored undo mid ≡ s → CanTake mid undo → RunsOn n mid t end → restored undo end ≡ s
run_back s mid undo t n end same some back fits runs =
    let idle : Thread = record { done = 0; activity = Idle } in
    let within : t < length mid.threads = subst (λ i. i < length mid.threads) same fits.thread in
    let now : Thread = get_or mid.threads t idle in
    let there : slice_get mid.threads t ≡ Some now = there_is mid t idle within in
    let on = ran n mid t end now there runs in
    let whole : Thread → Thread = before (has_local mid) undo.event undo.was in
    let alike : whole on.now ≡ whole now = rw some (same_activity undo.event undo.was now.done now.activity on.now on.goes) in
    let still : with_thread_back (with_shared (with_standing mid t on.now) undo.overwritten) t whole ≡ with_thread_back (with_shared mid undo.overwritten) t whole = still_back mid undo.overwritten t now on.now whole there alike in
    rw (on.moved, same) (still ∙ subst (λ i. with_thread_back (with_shared mid undo.overwritten) i whole ≡ s) same back)

-- and the state after it has all that this puts back
pub run_fits : (mid : State) (undo : Undo) (t n : ℕ) (end : State) → undo.thread ≡ t → CanTake mid undo → RunsOn n mid t end → CanTake end undo
run_fits mid undo t n end same fits runs =
    let idle : Thread = record { done = 0; activity = Idle } in
    let within : t < length mid.threads = subst (λ i. i < length mid.threads) same fits.thread in
    let on = ran n mid t end (get_or mid.threads t idle) (there_is mid t idle within) runs in
    rw on.moved (fits_still mid undo t on.now same fits)

-- where some instructions may run on, local instructions run with moves
pub has_some : (s mid : State) (undo : Undo) (more counted : ℕ) → restored undo mid ≡ s → more ≡ s.component.local - counted → 0 < more → has_local mid ≡ true
has_some s mid undo more counted back is some =
    rw (restored-component s mid undo back) (lt-ltb 0 s.component.local (omega arith))

-- What a thread's move needs of the state: where other threads stand does not matter, and for one that doesn't see cells and locks they do not either.
use Rattle.std.proofs.Common.{◌≡◌, ℕ, zero, suc, ◌-◌, ◌==◌, if◌then◌else◌, Bool, true, false, List, Option, Some, None, MatchOption, MatchBool, slice_get, slice_set, refl, sym, ◌∙◌, ap, subst}
use Rattle.std.proofs.lemmas.Option.{slice_get_within}
use Rattle.std.specs.Option.{option_map_or}
use Rattle.lu_component.specs.declared.instr.Instr.{Instr}
use Rattle.lu_component.specs.declared.instr.Instr.TheVariants.{Set, Compute, Load, Store, Cas, Lock, Unlock, Await, AwaitNot, Pick, Jump, JumpIfZero, Return}
use Rattle.lu_component.specs.Component.{Component}
use Rattle.lu_test.specs.Matrix.{Matrix}
use Rattle.lu_test.specs.declared.schedule.Move.{Move}
use Rattle.lu_machine.specs.declared.event.Event.{Event}
use Rattle.lu_machine.specs.declared.event.Outcome.TheVariants.{Trap}
use Rattle.lu_machine.specs.declared.thread.Activity.TheVariants.{Idle, Open}
use Rattle.lu_machine.specs.declared.thread.Activity.{Activity}
use Rattle.lu_machine.specs.declared.thread.Frame.{Frame}
use Rattle.lu_machine.specs.declared.thread.Thread.{Thread}
use Rattle.lu_machine.specs.Changes.{at_work, idle}
use Rattle.lu_machine.specs.Effects.{Effect, onward, onward_with, value_of}
use Rattle.lu_machine.specs.Effects.Effect.{Ends}
use Rattle.lu_horizon.specs.Stands.{is_unseen, only_reads}
use Rattle.lu_machine.specs.States.{State, cell_at, instr_at, value_at, with_cell, with_owner, with_standing}
use Rattle.lu_machine.specs.Steps.{Carries, ByActivity, OneStep, RunsOn, Step, activity_is_local, instr_picks, is_at_local, is_local, more_local, opened, owns, picks_of, thread_after}
use Rattle.lu_machine.proofs.Keeping.{carries_alike}
use Rattle.lu_machine.proofs.Running.{local_once}
use Rattle.lu_horizon.proofs.OwnLaws.{get_set_same, one_step_by}
use Rattle.lu_orders.specs.Solo.{IsSame, IsShared, LastEvents, Solo, only_move}

-- s with these threads
abbrev pub with_threads : State → List Thread → State
with_threads s threads = record s { threads = threads }

load_threads : (s : State) (o : Option ℕ) (f : Frame) (to : ℕ) (ths : List Thread) (e : Effect) → MatchOption o (e ≡ Ends Trap) (λ p. e ≡ onward_with f to (value_at s p)) → MatchOption o (e ≡ Ends Trap) (λ p. e ≡ onward_with f to (value_at (with_threads s ths) p))
load_threads s None f to ths e h = h
load_threads s (Some p) f to ths e h = h

store_threads : (s new : State) (o : Option ℕ) (f : Frame) (n : ℕ) (ths : List Thread) (e : Effect) → MatchOption o ((new ≡ s) × (e ≡ Ends Trap)) (λ p. (new ≡ with_cell s p n) × (e ≡ onward f)) → MatchOption o ((with_threads new ths ≡ with_threads s ths) × (e ≡ Ends Trap)) (λ p. (with_threads new ths ≡ with_cell (with_threads s ths) p n) × (e ≡ onward f))
store_threads s new None f n ths e h = (ap (λ (x : State). with_threads x ths) h.0, h.1)
store_threads s new (Some p) f n ths e h = (ap (λ (x : State). with_threads x ths) h.0, h.1)

swap_threads : (s new one : State) (b : Bool) (ths : List Thread) (x y e : Effect) → MatchBool b ((new ≡ one) × (e ≡ x)) ((new ≡ s) × (e ≡ y)) → MatchBool b ((with_threads new ths ≡ with_threads one ths) × (e ≡ x)) ((with_threads new ths ≡ with_threads s ths) × (e ≡ y))
swap_threads s new one true ths x y e h = (ap (λ (z : State). with_threads z ths) h.0, h.1)
swap_threads s new one false ths x y e h = (ap (λ (z : State). with_threads z ths) h.0, h.1)

cas_threads : (s new : State) (o : Option ℕ) (f : Frame) (to v n : ℕ) (ths : List Thread) (e : Effect) → MatchOption o ((new ≡ s) × (e ≡ Ends Trap)) (λ p. MatchBool (value_at s p == v) ((new ≡ with_cell s p n) × (e ≡ onward_with f to 1)) ((new ≡ s) × (e ≡ onward_with f to 0))) → MatchOption o ((with_threads new ths ≡ with_threads s ths) × (e ≡ Ends Trap)) (λ p. MatchBool (value_at (with_threads s ths) p == v) ((with_threads new ths ≡ with_cell (with_threads s ths) p n) × (e ≡ onward_with f to 1)) ((with_threads new ths ≡ with_threads s ths) × (e ≡ onward_with f to 0)))
cas_threads s new None f to v n ths e h = (ap (λ (x : State). with_threads x ths) h.0, h.1)
cas_threads s new (Some p) f to v n ths e h = swap_threads s new (with_cell s p n) (value_at s p == v) ths (onward_with f to 1) (onward_with f to 0) e h

-- with other threads
carries_threads : (s : State) (m : Move) (f : Frame) (instr : Instr) (new : State) (ths : List Thread) (e : Effect) → Carries s m f instr new e → Carries (with_threads s ths) m f instr (with_threads new ths) e
carries_threads s m f (Set to v) new ths e h = (ap (λ (x : State). with_threads x ths) h.0, h.1)
carries_threads s m f (Compute by to x y) new ths e h = (ap (λ (x : State). with_threads x ths) h.0, h.1)
carries_threads s m f (Load to w i) new ths e h = (ap (λ (x : State). with_threads x ths) h.0, load_threads s (cell_at s f w i) f to ths e h.1)
carries_threads s m f (Store w i v) new ths e h = store_threads s new (cell_at s f w i) f (value_of f v) ths e h
carries_threads s m f (Cas to w i x y) new ths e h = cas_threads s new (cell_at s f w i) f to (value_of f x) (value_of f y) ths e h
carries_threads s m f (Lock l) new ths e h = (h.0, ap (λ (x : State). with_threads x ths) h.1, h.2)
carries_threads s m f (Unlock l) new ths e h = swap_threads s new (with_owner s l None) (owns s m.thread l) ths (onward f) (Ends Trap) e h
carries_threads s m f (Await w i v) new ths e h = (ap (λ (x : State). with_threads x ths) h.0, h.1)
carries_threads s m f (AwaitNot w i v) new ths e h = (ap (λ (x : State). with_threads x ths) h.0, h.1)
carries_threads s m f (Pick to count) new ths e h = (ap (λ (x : State). with_threads x ths) h.0, h.1)
carries_threads s m f (Jump target) new ths e h = (ap (λ (x : State). with_threads x ths) h.0, h.1)
carries_threads s m f (JumpIfZero v target) new ths e h = (ap (λ (x : State). with_threads x ths) h.0, h.1)
carries_threads s m f (Return v) new ths e h = (ap (λ (x : State). with_threads x ths) h.0, h.1)

-- an unseen one leaves the state, in any state
carries_unseen : (s r : State) (m : Move) (f : Frame) (instr : Instr) (new : State) (e : Effect) → is_unseen instr ≡ true → Carries s m f instr new e → (new ≡ s) × Carries r m f instr r e
carries_unseen s r m f (Set to v) new e is h = (h.0, (refl, h.1))
carries_unseen s r m f (Compute by to x y) new e is h = (h.0, (refl, h.1))
carries_unseen s r m f (Load to w i) new e is h = absurd (cc)
carries_unseen s r m f (Store w i v) new e is h = absurd (cc)
carries_unseen s r m f (Cas to w i x y) new e is h = absurd (cc)
carries_unseen s r m f (Lock l) new e is h = absurd (cc)
carries_unseen s r m f (Unlock l) new e is h = absurd (cc)
carries_unseen s r m f (Await w i v) new e is h = absurd (cc)
carries_unseen s r m f (AwaitNot w i v) new e is h = absurd (cc)
carries_unseen s r m f (Pick to count) new e is h = absurd (cc)
carries_unseen s r m f (Jump target) new e is h = (h.0, (refl, h.1))
carries_unseen s r m f (JumpIfZero v target) new e is h = (h.0, (refl, h.1))
carries_unseen s r m f (Return v) new e is h = (h.0, (refl, h.1))

-- one that only reads leaves the state
carries_reads : (s : State) (m : Move) (f : Frame) (instr : Instr) (new : State) (e : Effect) → only_reads instr ≡ true → Carries s m f instr new e → new ≡ s
carries_reads s m f (Set to v) new e is h = h.0
carries_reads s m f (Compute by to x y) new e is h = h.0
carries_reads s m f (Load to w i) new e is h = h.0
carries_reads s m f (Store w i v) new e is h = absurd (cc)
carries_reads s m f (Cas to w i x y) new e is h = absurd (cc)
carries_reads s m f (Lock l) new e is h = absurd (cc)
carries_reads s m f (Unlock l) new e is h = absurd (cc)
carries_reads s m f (Await w i v) new e is h = absurd (cc)
carries_reads s m f (AwaitNot w i v) new e is h = absurd (cc)
carries_reads s m f (Pick to count) new e is h = absurd (cc)
carries_reads s m f (Jump target) new e is h = h.0
carries_reads s m f (JumpIfZero v target) new e is h = h.0
carries_reads s m f (Return v) new e is h = h.0

-- a state by its parts
state_is : (s r : State) → r.component ≡ s.component → r.matrix ≡ s.matrix → r.cells ≡ s.cells → r.locks ≡ s.locks → with_threads s r.threads ≡ r
state_is s r c m a l =
    ap (λ (x : Component). let y : State = record { component = x; matrix = s.matrix; cells = s.cells; locks = s.locks; threads = r.threads } in y) (sym c)
    ∙ (ap (λ (x : Matrix). let y : State = record { component = r.component; matrix = x; cells = s.cells; locks = s.locks; threads = r.threads } in y) (sym m)
    ∙ (ap (λ (x : List ℕ). let y : State = record { component = r.component; matrix = r.matrix; cells = x; locks = s.locks; threads = r.threads } in y) (sym a)
    ∙ ap (λ (x : List (Option ℕ)). let y : State = record { component = r.component; matrix = r.matrix; cells = r.cells; locks = x; threads = r.threads } in y) (sym l)))

-- what a step gives in a state that is the same for its thread
pub record Framed (sees keeps : Bool) (t : ℕ) (r next : State) (event : Option Event) : Type 0 where
  pub there : State
  pub step : Step r (only_move t) there event
  pub one : picks_of r t ≡ 1
  pub quiet : keeps ≡ true → IsShared r there
  pub same : IsSame sees t next there

-- the instruction of an open operation is unseen where the thread is not to see what is shared, and only reads where it is to keep it
pub record Touches (sees keeps : Bool) (s : State) (f : Frame) : Type 0 where
  pub unseen_is : (instr : Instr) → sees ≡ false → instr_at s.component f.op f.place ≡ Some instr → is_unseen instr ≡ true
  pub reads_is : (instr : Instr) → keeps ≡ true → instr_at s.component f.op f.place ≡ Some instr → only_reads instr ≡ true

-- the only move of a thread that stands so
pub record Works (sees keeps : Bool) (t k : ℕ) (activity : Activity) (s next : State) (event : Option Event) : Type 0 where
  pub stands : slice_get s.threads t ≡ Some (record { done = k; activity = activity })
  pub touches : (f : Frame) → activity ≡ Open f → Touches sees keeps s f
  pub one : picks_of s t ≡ 1
  pub step : Step s (only_move t) next event

unseen_picks : (r : State) (f : Frame) (instr : Instr) → is_unseen instr ≡ true → instr_picks r f instr ≡ 1
unseen_picks r f (Set to v) is = refl
unseen_picks r f (Compute by to x y) is = refl
unseen_picks r f (Load to w i) is = absurd (cc)
unseen_picks r f (Store w i v) is = absurd (cc)
unseen_picks r f (Cas to w i x y) is = absurd (cc)
unseen_picks r f (Lock l) is = absurd (cc)
unseen_picks r f (Unlock l) is = absurd (cc)
unseen_picks r f (Await w i v) is = absurd (cc)
unseen_picks r f (AwaitNot w i v) is = absurd (cc)
unseen_picks r f (Pick to count) is = absurd (cc)
unseen_picks r f (Jump target) is = refl
unseen_picks r f (JumpIfZero v target) is = refl
unseen_picks r f (Return v) is = refl

same_picks : (s : State) (ths : List Thread) (f : Frame) (instr : Instr) → instr_picks (with_threads s ths) f instr ≡ instr_picks s f instr
same_picks s ths f (Set to v) = refl
same_picks s ths f (Compute by to x y) = refl
same_picks s ths f (Load to w i) = refl
same_picks s ths f (Store w i v) = refl
same_picks s ths f (Cas to w i x y) = refl
same_picks s ths f (Lock l) = refl
same_picks s ths f (Unlock l) = refl
same_picks s ths f (Await w i v) = refl
same_picks s ths f (AwaitNot w i v) = refl
same_picks s ths f (Pick to count) = refl
same_picks s ths f (Jump target) = refl
same_picks s ths f (JumpIfZero v target) = refl
same_picks s ths f (Return v) = refl

pub now_stands : (new : State) (ths : List Thread) (t : ℕ) (was now : Thread) → slice_get ths t ≡ Some was → new.threads ≡ slice_set ths t now → slice_get new.threads t ≡ Some now
now_stands new ths t was now stands is = ap (λ (x : List Thread). slice_get x t) is ∙ get_set_same ths t now (slice_get_within ths t was stands)

picks_at : (s : State) (t k : ℕ) (f : Frame) (instr : Instr) → slice_get s.threads t ≡ Some (at_work k f) → instr_at s.component f.op f.place ≡ Some instr → picks_of s t ≡ instr_picks s f instr
picks_at s t k f instr stands at = rw (stands, at) refl

-- what one call or instruction gives in a state that is the same for its thread
record FramedOnce (sees keeps : Bool) (t : ℕ) (r next : State) (event : Option Event) : Type 0 where
  pub there : State
  pub step : OneStep r (only_move t) there event
  pub one : picks_of r t ≡ 1
  pub quiet : keeps ≡ true → IsShared r there
  pub same : IsSame sees t next there

-- an instruction that is unseen, whether or not its thread sees what is shared
once_unseen : (sees keeps : Bool) (t k : ℕ) (f : Frame) (s next : State) (event : Option Event) → slice_get s.threads t ≡ Some (at_work k f) → (h : ByActivity s (only_move t) k (Open f) next event) → is_unseen h.0 ≡ true → (r : State) → IsSame sees t s r → FramedOnce sees keeps t r next event
once_unseen sees keeps t k f s next event was h is r same =
    let by = carries_unseen s r (only_move t) f h.0 h.1 h.2 is h.5 in
    let now = thread_after k h.2 in
    let stands : slice_get r.threads t ≡ Some (at_work k f) = same.stands ∙ was in
    let at : instr_at r.component f.op f.place ≡ Some h.0 = rw same.component h.3 in
    let mid = carries_alike s (only_move t) f h.0 h.1 h.2 h.5 in
    let there = with_standing r t now in
    record {
      there = there;
      step = (at_work k f, stands, (h.0, r, h.2, at, h.4, by.1, refl, h.7));
      one = picks_at r t k f h.0 stands at ∙ unseen_picks r f h.0 is;
      quiet = λ e. (refl, refl);
      same = record {
        component = same.component ∙ sym (ap (λ (x : State). x.component) h.6 ∙ mid.component);
        matrix_is = same.matrix_is ∙ sym (ap (λ (x : State). x.matrix) h.6 ∙ mid.matrix);
        stands =
            now_stands there r.threads t (at_work k f) now stands refl
            ∙ sym (now_stands next s.threads t (at_work k f) now was (ap (λ (x : State). x.threads) h.6 ∙ ap (λ (x : List Thread). slice_set x t now) mid.threads));
        shared = λ e.
            (let shared = same.shared e in (
              shared.0 ∙ sym (ap (λ (x : State). x.cells) h.6 ∙ ap (λ (x : State). x.cells) by.0),
              shared.1 ∙ sym (ap (λ (x : State). x.locks) h.6 ∙ ap (λ (x : State). x.locks) by.0),
            ));
      };
    }

-- any other, of a thread that sees what is shared
once_seen : (keeps : Bool) (t k : ℕ) (f : Frame) (s next : State) (event : Option Event) → slice_get s.threads t ≡ Some (at_work k f) → Touches true keeps s f → picks_of s t ≡ 1 → ByActivity s (only_move t) k (Open f) next event → (r : State) → IsSame true t s r → FramedOnce true keeps t r next event
once_seen keeps t k f s next event was touches only h r same =
    let shared = same.shared refl in
    let is : with_threads s r.threads ≡ r = state_is s r same.component same.matrix_is shared.0 shared.1 in
    let now = thread_after k h.2 in
    let stands : slice_get r.threads t ≡ Some (at_work k f) = same.stands ∙ was in
    let at : instr_at r.component f.op f.place ≡ Some h.0 = rw same.component h.3 in
    let mid = carries_alike s (only_move t) f h.0 h.1 h.2 h.5 in
    let carries : Carries r (only_move t) f h.0 (with_threads h.1 r.threads) h.2 = subst (λ x. Carries x (only_move t) f h.0 (with_threads h.1 r.threads) h.2) is (carries_threads s (only_move t) f h.0 h.1 r.threads h.2 h.5) in
    let there = with_standing (with_threads h.1 r.threads) t now in
    let picks : instr_picks r f h.0 ≡ instr_picks s f h.0 = subst (λ x. instr_picks x f h.0 ≡ instr_picks s f h.0) is (same_picks s r.threads f h.0) in
    record {
      there = there;
      step = (at_work k f, stands, (h.0, with_threads h.1 r.threads, h.2, at, h.4, carries, refl, h.7));
      one = picks_at r t k f h.0 stands at ∙ (picks ∙ (sym (picks_at s t k f h.0 was h.3) ∙ only));
      quiet = λ e.
          (let left : h.1 ≡ s = carries_reads s (only_move t) f h.0 h.1 h.2 (touches.reads_is h.0 e h.3) h.5 in
          (ap (λ (x : State). x.cells) left ∙ sym shared.0, ap (λ (x : State). x.locks) left ∙ sym shared.1));
      same = record {
        component = sym (ap (λ (x : State). x.component) h.6);
        matrix_is = sym (ap (λ (x : State). x.matrix) h.6);
        stands =
            now_stands there r.threads t (at_work k f) now stands refl
            ∙ sym (now_stands next s.threads t (at_work k f) now was (ap (λ (x : State). x.threads) h.6 ∙ ap (λ (x : List Thread). slice_set x t now) mid.threads));
        shared = λ e. (sym (ap (λ (x : State). x.cells) h.6), sym (ap (λ (x : State). x.locks) h.6));
      };
    }

-- an idle thread opens its next call
once_called : (sees keeps : Bool) (t k : ℕ) (s next : State) (event : Option Event) → slice_get s.threads t ≡ Some (idle k) → picks_of s t ≡ 1 → ByActivity s (only_move t) k Idle next event → (r : State) → IsSame sees t s r → FramedOnce sees keeps t r next event
once_called sees keeps t k s next event was only h r same =
    let now = at_work k (opened h.0) in
    let stands : slice_get r.threads t ≡ Some (idle k) = same.stands ∙ was in
    let there = with_standing r t now in
    record {
      there = there;
      step = (idle k, stands, (h.0, rw same.matrix_is h.1, refl, refl, h.4));
      one = (let e : picks_of r t ≡ picks_of s t = rw (stands, was, same.matrix_is) refl in e ∙ only);
      quiet = λ e. (refl, refl);
      same = record {
        component = same.component ∙ sym (ap (λ (x : State). x.component) h.3);
        matrix_is = same.matrix_is ∙ sym (ap (λ (x : State). x.matrix) h.3);
        stands =
            now_stands there r.threads t (idle k) now stands refl
            ∙ sym (now_stands next s.threads t (idle k) now was (ap (λ (x : State). x.threads) h.3));
        shared = λ e.
            (let shared = same.shared e in
            (shared.0 ∙ sym (ap (λ (x : State). x.cells) h.3), shared.1 ∙ sym (ap (λ (x : State). x.locks) h.3)));
      };
    }

-- one call or instruction of a thread is one in each state that is the same for it
frame_once : (sees keeps : Bool) (t k : ℕ) (activity : Activity) (s next : State) (event : Option Event) → slice_get s.threads t ≡ Some (record { done = k; activity = activity }) → ((f : Frame) → activity ≡ Open f → Touches sees keeps s f) → picks_of s t ≡ 1 → ByActivity s (only_move t) k activity next event → (r : State) → IsSame sees t s r → FramedOnce sees keeps t r next event
frame_once sees keeps t k Idle s next event was touches only h r same = once_called sees keeps t k s next event was only h r same
frame_once false keeps t k (Open f) s next event was touches only h r same =
    once_unseen false keeps t k f s next event was h ((touches f refl).unseen_is h.0 refl h.3) r same
frame_once true keeps t k (Open f) s next event was touches only h r same = once_seen keeps t k f s next event was (touches f refl) only h r same

-- a local instruction is unseen
local_is_unseen : (instr : Instr) → is_local instr ≡ true → is_unseen instr ≡ true
local_is_unseen (Set to v) is = refl
local_is_unseen (Compute by to x y) is = refl
local_is_unseen (Load to w i) is = absurd (cc)
local_is_unseen (Store w i v) is = absurd (cc)
local_is_unseen (Cas to w i x y) is = absurd (cc)
local_is_unseen (Lock l) is = absurd (cc)
local_is_unseen (Unlock l) is = absurd (cc)
local_is_unseen (Await w i v) is = absurd (cc)
local_is_unseen (AwaitNot w i v) is = absurd (cc)
local_is_unseen (Pick to count) is = absurd (cc)
local_is_unseen (Jump target) is = refl
local_is_unseen (JumpIfZero v target) is = refl
local_is_unseen (Return v) is = absurd (cc)

-- whether the next instruction is local is the same in two states of one component
activity_alike : (s r : State) → r.component ≡ s.component → (activity : Activity) → activity_is_local r activity ≡ activity_is_local s activity
activity_alike s r same Idle = refl
activity_alike s r same (Open f) = rw same refl

standing_alike : (s r : State) → r.component ≡ s.component → (o : Option Thread) → option_map_or (λ thread. activity_is_local r thread.activity) o false ≡ option_map_or (λ thread. activity_is_local s thread.activity) o false
standing_alike s r same None = refl
standing_alike s r same (Some thread) = activity_alike s r same thread.activity

local_alike : (sees : Bool) (t : ℕ) (s r : State) → IsSame sees t s r → is_at_local r t ≡ is_at_local s t
local_alike sees t s r same =
    ap (λ (o : Option Thread). option_map_or (λ thread. activity_is_local r thread.activity) o false) same.stands
    ∙ standing_alike s r same.component (slice_get s.threads t)

-- and so is how many may follow
pub more_alike : (sees : Bool) (t : ℕ) (s r : State) → IsSame sees t s r → more_local r t ≡ more_local s t
more_alike sees t s r same =
    ap (λ (x : Component). x.local - (if is_at_local r t then 1 else 0)) same.component
    ∙ ap (λ (b : Bool). s.component.local - (if b then 1 else 0)) (local_alike sees t s r same)

-- what running on gives in a state that is the same for the thread
pub record FramedRun (sees : Bool) (t n : ℕ) (r end : State) : Type 0 where
  pub there : State
  pub runs : RunsOn n r t there
  pub quiet : IsShared r there
  pub same : IsSame sees t end there

runs_nowhere : (sees : Bool) (t n : ℕ) (s end r : State) → is_at_local s t ≡ false → end ≡ s → IsSame sees t s r → FramedRun sees t (suc n) r end
runs_nowhere sees t n s end r is stays same =
    let still : is_at_local r t ≡ false = local_alike sees t s r same ∙ is in
    record {
      there = r;
      runs = rw still refl;
      quiet = (refl, refl);
      same = subst (λ x. IsSame sees t x r) (sym stays) same;
    }

-- a thread at a local instruction carries it out
runs_once : (sees : Bool) (t : ℕ) (s next r : State) → is_at_local s t ≡ true → OneStep s (only_move t) next None → IsSame sees t s r → FramedOnce sees true t r next None
runs_once sees t s next r is step same =
    let once = local_once s t is in
    let k = once.standing.done in
    let f = once.before in
    let stands : slice_get s.threads t ≡ Some (at_work k f) = once.stands ∙ ap (λ (a : Activity). let x : Thread = record { done = k; activity = a } in Some x) once.is_open in
    let h : ByActivity s (only_move t) k (Open f) next None = one_step_by s (only_move t) next None (at_work k f) stands step in
    let local : is_local h.0 ≡ true = rw (stands, h.3) at is in
    once_unseen sees true t k f s next None stands h (local_is_unseen h.0 local) r same

-- by what local instructions a thread runs on, it does so in each state that is the same for it
pub frame_runs : (sees : Bool) (t n : ℕ) (s end r : State) → RunsOn n s t end → IsSame sees t s r → FramedRun sees t n r end
frame_runs sees t zero s end r runs same = record {
  there = r;
  runs = refl;
  quiet = (refl, refl);
  same = subst (λ x. IsSame sees t x r) (sym runs) same;
}
frame_runs sees t (suc n) s end r runs same = by_test (λ x y. frame_runs sees t n x end y) (is_at_local s t) refl runs
  where
    by_test : ((x y : State) → RunsOn n x t end → IsSame sees t x y → FramedRun sees t n y end) → (test : Bool) → is_at_local s t ≡ test → MatchBool test ((next : State) × OneStep s (record { thread = t; pick = 0 }) next None × RunsOn n next t end) (end ≡ s) → FramedRun sees t (suc n) r end
    by_test go true is h =
        let once = runs_once sees t s h.0 r is h.1 same in
        let on = go h.0 once.there h.2 once.same in
        let kept = once.quiet refl in
        let still : is_at_local r t ≡ true = local_alike sees t s r same ∙ is in
        record {
          there = on.there;
          runs = rw still (once.there, once.step, on.runs);
          quiet = (on.quiet.0 ∙ kept.0, on.quiet.1 ∙ kept.1);
          same = on.same;
        }
    by_test go false is h = runs_nowhere sees t n s end r is h same

-- a step of a thread is one in each state that is the same for it
pub frame : (sees keeps : Bool) (t k : ℕ) (activity : Activity) (s next : State) (event : Option Event) → Works sees keeps t k activity s next event → (r : State) → IsSame sees t s r → Framed sees keeps t r next event
frame sees keeps t k activity s next event w r same =
    let mid = w.step.0 in
    let by : ByActivity s (only_move t) k activity mid event = one_step_by s (only_move t) mid event (record { done = k; activity = activity }) w.stands w.step.1 in
    let once = frame_once sees keeps t k activity s mid event w.stands w.touches w.one by r same in
    let on = frame_runs sees t (more_local s t) mid next once.there w.step.2 once.same in
    record {
      there = on.there;
      step = (once.there, once.step, subst (λ n. RunsOn n once.there t on.there) (sym (more_alike sees t s r same)) on.runs);
      one = once.one;
      quiet = λ e. (let kept = once.quiet e in (on.quiet.0 ∙ kept.0, on.quiet.1 ∙ kept.1));
      same = on.same;
    }

pub same_itself : (sees : Bool) (t : ℕ) (s : State) → IsSame sees t s s
same_itself sees t s = record { component = refl; matrix_is = refl; stands = refl; shared = λ e. (refl, refl) }

same_trans : (sees : Bool) (t : ℕ) (s r x : State) → IsSame sees t s r → IsSame sees t r x → IsSame sees t s x
same_trans sees t s r x a b = record {
  component = b.component ∙ a.component;
  matrix_is = b.matrix_is ∙ a.matrix_is;
  stands = b.stands ∙ a.stands;
  shared = λ e. ((b.shared e).0 ∙ (a.shared e).0, (b.shared e).1 ∙ (a.shared e).1);
}

-- what a thread still does by itself, it does in each state that is the same for it
pub solo_same : (sees keeps : Bool) (t : ℕ) (event_of : LastEvents) (n : ℕ) (s r : State) → IsSame sees t s r → Solo sees keeps t event_of n s → Solo sees keeps t event_of n r
solo_same sees keeps t event_of zero s r same solo = (solo.0, same.stands ∙ solo.1, rw same.matrix_is solo.2)
solo_same sees keeps t event_of (suc n) s r same solo = λ x after. solo x (same_trans sees t s r x same after)

-- one move more
pub solo_more : (sees keeps : Bool) (t k : ℕ) (event_of : LastEvents) (n : ℕ) (activity : Activity) (s next : State) (event : Option Event) → Works sees keeps t k activity s next event → event ≡ event_of n → Solo sees keeps t event_of n next → Solo sees keeps t event_of (suc n) s
solo_more sees keeps t k event_of n activity s next event works is solo = λ r same.
    (let fr = frame sees keeps t k activity s next event works r same in
    (fr.there, subst (Step r (only_move t) fr.there) is fr.step, fr.one, fr.quiet, solo_same sees keeps t event_of n next fr.there fr.same solo))

-- What a move does depends on where its thread stands and on what it accesses, and it changes nothing else: so moves that are independent commute.
use Rattle.std.proofs.Common.{◌≡◌, ℕ, zero, suc, ◌==◌, ◌&&◌, ◌||◌, not, if◌then◌else◌, Bool, true, false, List, [], ◌∷◌, Option, Some, None, MatchOption, MatchBool, is_some, slice_get, slice_set, get_or, refl, sym, ◌∙◌, ap, subst, arith}
use Rattle.std.specs.Option.{option_map, option_map_or}
use Rattle.std.proofs.lemmas.Bool.Decides.{nat_tests}
use Rattle.std.proofs.lemmas.List.{set-set, length-set, get_or-set_other, set-get_or}
use Rattle.std.proofs.lemmas.Option.{same_Some, slice_get_within}
use Rattle.lu_component.specs.Component.{Component}
use Rattle.lu_component.specs.declared.instr.Instr.{Instr}
use Rattle.lu_component.specs.declared.instr.Instr.TheVariants.{Set, Compute, Load, Store, Cas, Lock, Unlock, Await, AwaitNot, Pick, Jump, JumpIfZero, Return}
use Rattle.lu_test.specs.Matrix.{Matrix}
use Rattle.lu_test.specs.declared.schedule.Move.{Move}
use Rattle.lu_machine.specs.declared.event.Event.{Event}
use Rattle.lu_machine.specs.declared.event.Event.TheVariants.{Call as Called, Return as Returned}
use Rattle.lu_machine.specs.declared.event.Outcome.TheVariants.{Trap}
use Rattle.lu_machine.specs.declared.thread.Activity.{Activity}
use Rattle.lu_machine.specs.declared.thread.Activity.TheVariants.{Idle, Open}
use Rattle.lu_machine.specs.declared.thread.Frame.{Frame}
use Rattle.lu_machine.specs.declared.thread.Thread.{Thread}
use Rattle.lu_machine.specs.declared.undo.Shared.{Shared}
use Rattle.lu_machine.specs.declared.undo.Shared.TheVariants.{Nothing, Cell, Owner}
use Rattle.lu_machine.specs.Changes.{at_work, idle}
use Rattle.lu_machine.specs.Effects.{Effect, onward, onward_with, value_of}
use Rattle.lu_machine.specs.Effects.Effect.{GoesOn, Ends}
use Rattle.lu_machine.specs.States.{State, cell_at, cell_of, instr_at, owner_of, value_at, with_cell, with_owner, with_standing}
use Rattle.lu_machine.specs.Steps.{Carries, ByActivity, OneStep, RunsOn, Step, event_after, instr_picks, more_local, opened, owns, picks_of, thread_after}
use Rattle.lu_machine.specs.Undoes.{with_shared}
use Rattle.lu_machine.proofs.Keeping.{Turns, step_moved}
use Rattle.lu_machine.proofs.Running.{ran}
use Rattle.lu_machine.proofs.StepLaws.{feasible_step, step_same}
use Rattle.lu_horizon.proofs.OwnLaws.{get_set_other, get_set_same, one_step_by}
use Rattle.lu_horizon.specs.Dead.{DeadTable}
use Rattle.lu_orders.specs.Solo.{IsSame, only_move}
use Rattle.lu_orders.proofs.Frames.{frame_runs, more_alike}
use Rattle.lu_tree.specs.declared.access.Access.{Access}
use Rattle.lu_tree.specs.declared.access.Held.{Held}
use Rattle.lu_tree.specs.declared.access.Held.TheVariants.{Value, Owner as OwnedBy}
use Rattle.lu_tree.specs.declared.access.Location.{Location}
use Rattle.lu_tree.specs.declared.access.Location.TheVariants as location
use Rattle.lu_tree.specs.Accesses.{AreIndependent, HasLocation, are_one, conflict, held_at, instr_access, next_access, of_cell, of_lock}
use Rattle.lu_tree.specs.Known.{AreFree, Commute, Moves, MovesBoth}
use Rattle.lu_tree.specs.Reordered.{AreUnordered}
use Rattle.lu_tree.proofs.Alike.{alike_itself}

-- what is written is of what the access may change
abbrev pub Within : Shared → Option Access → Type 0
Within Nothing a = Unit {0}
Within (Cell p n) a = a ≡ Some (of_cell true p)
Within (Owner l owner) a = a ≡ Some (of_lock l)

-- the location holds the same
abbrev pub HoldsSame : State → State → Location → Type 0
HoldsSame s r (location.Cell p) = value_at r p ≡ value_at s p
HoldsSame s r (location.Lock l) = owner_of r l ≡ owner_of s l

-- and so does that of an access, if there is one
abbrev pub AccessSame : State → State → Option Access → Type 0
AccessSame s r None = Unit {0}
AccessSame s r (Some a) = HoldsSame s r a.location

-- what an instruction writes, and that it does the same wherever it accesses the same
pub record Acting (s : State) (m : Move) (f : Frame) (instr : Instr) (new : State) (e : Effect) : Type 0 where
  pub wrote : Shared
  pub is : new ≡ with_shared s wrote
  pub within : Within wrote (instr_access s.component f instr)
  pub there : (r : State) → r.component ≡ s.component → AccessSame s r (instr_access s.component f instr) → Carries r m f instr (with_shared r wrote) e × (instr_picks r f instr ≡ instr_picks s f instr)

load_there : (s r : State) (f : Frame) (to : ℕ) (o q : Option ℕ) (e : Effect) → q ≡ o → AccessSame s r (option_map (of_cell false) o) → MatchOption o (e ≡ Ends Trap) (λ p. e ≡ onward_with f to (value_at s p)) → MatchOption q (e ≡ Ends Trap) (λ p. e ≡ onward_with f to (value_at r p))
load_there s r f to None q e is same h = rw is h
load_there s r f to (Some p) q e is same h = rw is (h ∙ ap (λ n. onward_with f to n) (sym same))

await_there : (s r : State) (f : Frame) (v : ℕ) (o q : Option ℕ) (e : Effect) → q ≡ o → AccessSame s r (option_map (of_cell false) o) → MatchOption o (e ≡ Ends Trap) (λ p. (value_at s p ≡ v) × (e ≡ onward f)) → MatchOption q (e ≡ Ends Trap) (λ p. (value_at r p ≡ v) × (e ≡ onward f))
await_there s r f v None q e is same h = rw is h
await_there s r f v (Some p) q e is same h = rw is (same ∙ h.0, h.1)

await_not_there : (s r : State) (f : Frame) (v : ℕ) (o q : Option ℕ) (e : Effect) → q ≡ o → AccessSame s r (option_map (of_cell false) o) → MatchOption o (e ≡ Ends Trap) (λ p. (value_at s p ≡ v → ⊥) × (e ≡ onward f)) → MatchOption q (e ≡ Ends Trap) (λ p. (value_at r p ≡ v → ⊥) × (e ≡ onward f))
await_not_there s r f v None q e is same h = rw is h
await_not_there s r f v (Some p) q e is same h = rw is (λ x. h.0 (sym same ∙ x), h.1)

test_there : (s r : State) (v : ℕ) (o q : Option ℕ) (on : Bool → Bool) → q ≡ o → AccessSame s r (option_map (of_cell false) o) → option_map_or (λ p. on (value_at r p == v)) q false ≡ option_map_or (λ p. on (value_at s p == v)) o false
test_there s r v None q on is same = rw is refl
test_there s r v (Some p) q on is same = rw (is, same) refl

store_acting : (s new : State) (f : Frame) (n : ℕ) (o : Option ℕ) (e : Effect) → MatchOption o ((new ≡ s) × (e ≡ Ends Trap)) (λ p. (new ≡ with_cell s p n) × (e ≡ onward f)) → (wrote : Shared) × (new ≡ with_shared s wrote) × Within wrote (option_map (of_cell true) o) × ((r : State) (q : Option ℕ) → q ≡ o → MatchOption q ((with_shared r wrote ≡ r) × (e ≡ Ends Trap)) (λ p. (with_shared r wrote ≡ with_cell r p n) × (e ≡ onward f)))
store_acting s new f n None e h = (Nothing, h.0, tt, λ r q is. rw is (refl, h.1))
store_acting s new f n (Some p) e h = (Cell p n, h.0, refl, λ r q is. rw is (refl, h.1))

swap_acting : (s new : State) (f : Frame) (to v n p : ℕ) (e : Effect) (b : Bool) → (value_at s p == v) ≡ b → MatchBool b ((new ≡ with_cell s p n) × (e ≡ onward_with f to 1)) ((new ≡ s) × (e ≡ onward_with f to 0)) → (wrote : Shared) × (new ≡ with_shared s wrote) × Within wrote (Some (of_cell true p)) × ((r : State) → value_at r p ≡ value_at s p → MatchBool (value_at r p == v) ((with_shared r wrote ≡ with_cell r p n) × (e ≡ onward_with f to 1)) ((with_shared r wrote ≡ r) × (e ≡ onward_with f to 0)))
swap_acting s new f to v n p e true is h = (Cell p n, h.0, refl, λ r same. rw (same, is) (refl, h.1))
swap_acting s new f to v n p e false is h = (Nothing, h.0, tt, λ r same. rw (same, is) (refl, h.1))

cas_acting : (s new : State) (f : Frame) (to v n : ℕ) (o : Option ℕ) (e : Effect) → MatchOption o ((new ≡ s) × (e ≡ Ends Trap)) (λ p. MatchBool (value_at s p == v) ((new ≡ with_cell s p n) × (e ≡ onward_with f to 1)) ((new ≡ s) × (e ≡ onward_with f to 0))) → (wrote : Shared) × (new ≡ with_shared s wrote) × Within wrote (option_map (of_cell true) o) × ((r : State) (q : Option ℕ) → q ≡ o → AccessSame s r (option_map (of_cell true) o) → MatchOption q ((with_shared r wrote ≡ r) × (e ≡ Ends Trap)) (λ p. MatchBool (value_at r p == v) ((with_shared r wrote ≡ with_cell r p n) × (e ≡ onward_with f to 1)) ((with_shared r wrote ≡ r) × (e ≡ onward_with f to 0))))
cas_acting s new f to v n None e h = (Nothing, h.0, tt, λ r q is same. rw is (refl, h.1))
cas_acting s new f to v n (Some p) e h =
    let swap = swap_acting s new f to v n p e (value_at s p == v) refl h in
    (swap.0, swap.1, swap.2, λ r q is same. rw is (swap.3 r same))

unlock_acting : (s new : State) (f : Frame) (t l : ℕ) (e : Effect) (b : Bool) → owns s t l ≡ b → MatchBool b ((new ≡ with_owner s l None) × (e ≡ onward f)) ((new ≡ s) × (e ≡ Ends Trap)) → (wrote : Shared) × (new ≡ with_shared s wrote) × Within wrote (Some (of_lock l)) × ((r : State) → owner_of r l ≡ owner_of s l → MatchBool (owns r t l) ((with_shared r wrote ≡ with_owner r l None) × (e ≡ onward f)) ((with_shared r wrote ≡ r) × (e ≡ Ends Trap)))
unlock_acting s new f t l e true is h = (Owner l None, h.0, refl, λ r same. rw (same, is) (refl, h.1))
unlock_acting s new f t l e false is h = (Nothing, h.0, tt, λ r same. rw (same, is) (refl, h.1))

cell_alike : (s r : State) (w n : ℕ) → r.component ≡ s.component → cell_of r.component w n ≡ cell_of s.component w n
cell_alike s r w n is = ap (λ (c : Component). cell_of c w n) is

pub acting : (s : State) (m : Move) (f : Frame) (instr : Instr) (new : State) (e : Effect) → Carries s m f instr new e → Acting s m f instr new e
acting s m f (Set to v) new e h = record { wrote = Nothing; is = h.0; within = tt; there = λ r c same. ((refl, h.1), refl) }
acting s m f (Compute by to x y) new e h = record { wrote = Nothing; is = h.0; within = tt; there = λ r c same. ((refl, h.1), refl) }
acting s m f (Load to w i) new e h = record {
  wrote = Nothing;
  is = h.0;
  within = tt;
  there = λ r c same. ((refl, load_there s r f to (cell_at s f w i) (cell_at r f w i) e (cell_alike s r w (value_of f i) c) same h.1), refl);
}
acting s m f (Store w i v) new e h =
    let a = store_acting s new f (value_of f v) (cell_at s f w i) e h in
    record { wrote = a.0; is = a.1; within = a.2; there = λ r c same. (a.3 r (cell_at r f w i) (cell_alike s r w (value_of f i) c), refl) }
acting s m f (Cas to w i x y) new e h =
    let a = cas_acting s new f to (value_of f x) (value_of f y) (cell_at s f w i) e h in
    record { wrote = a.0; is = a.1; within = a.2; there = λ r c same. (a.3 r (cell_at r f w i) (cell_alike s r w (value_of f i) c) same, refl) }
acting s m f (Lock l) new e h = record {
  wrote = Owner l (Some m.thread);
  is = h.1;
  within = refl;
  there = λ r c same. ((same ∙ h.0, refl, h.2), ap (λ o. if is_some o then 0 else 1) same);
}
acting s m f (Unlock l) new e h =
    let a = unlock_acting s new f m.thread l e (owns s m.thread l) refl h in
    record { wrote = a.0; is = a.1; within = a.2; there = λ r c same. (a.3 r same, refl) }
acting s m f (Await w i v) new e h = record {
  wrote = Nothing;
  is = h.0;
  within = tt;
  there = λ r c same.
      ((refl, await_there s r f (value_of f v) (cell_at s f w i) (cell_at r f w i) e (cell_alike s r w (value_of f i) c) same h.1), ap (λ b. if b then 0 else 1) (test_there s r (value_of f v) (cell_at s f w i) (cell_at r f w i) not (cell_alike s r w (value_of f i) c) same));
}
acting s m f (AwaitNot w i v) new e h = record {
  wrote = Nothing;
  is = h.0;
  within = tt;
  there = λ r c same.
      ((refl, await_not_there s r f (value_of f v) (cell_at s f w i) (cell_at r f w i) e (cell_alike s r w (value_of f i) c) same h.1), ap (λ b. if b then 0 else 1) (test_there s r (value_of f v) (cell_at s f w i) (cell_at r f w i) (λ b. b) (cell_alike s r w (value_of f i) c) same));
}
acting s m f (Pick to count) new e h = record { wrote = Nothing; is = h.0; within = tt; there = λ r c same. ((refl, h.1), refl) }
acting s m f (Jump target) new e h = record { wrote = Nothing; is = h.0; within = tt; there = λ r c same. ((refl, h.1), refl) }
acting s m f (JumpIfZero v target) new e h = record { wrote = Nothing; is = h.0; within = tt; there = λ r c same. ((refl, h.1), refl) }
acting s m f (Return v) new e h = record { wrote = Nothing; is = h.0; within = tt; there = λ r c same. ((refl, h.1), refl) }

-- r is the same as s for the next move of thread t: it stands there as in s, and what it accesses holds the same
pub record IsLike (t : ℕ) (s r : State) : Type 0 where
  pub component : r.component ≡ s.component
  pub matrix_is : r.matrix ≡ s.matrix
  pub stands : slice_get r.threads t ≡ slice_get s.threads t
  pub held : AccessSame s r (next_access s t)

-- s with what is written, and thread t standing so
abbrev pub written : State → Shared → ℕ → Thread → State
written s w t now = with_standing (with_shared s w) t now

shared_component : (s : State) (w : Shared) → (with_shared s w).component ≡ s.component
shared_component s Nothing = refl
shared_component s (Cell p n) = refl
shared_component s (Owner l owner) = refl

shared_matrix : (s : State) (w : Shared) → (with_shared s w).matrix ≡ s.matrix
shared_matrix s Nothing = refl
shared_matrix s (Cell p n) = refl
shared_matrix s (Owner l owner) = refl

shared_threads : (s : State) (w : Shared) → (with_shared s w).threads ≡ s.threads
shared_threads s Nothing = refl
shared_threads s (Cell p n) = refl
shared_threads s (Owner l owner) = refl

-- a thread that was there stands so
pub written_stands : (s : State) (w : Shared) (t : ℕ) (was now : Thread) → slice_get s.threads t ≡ Some was → slice_get (written s w t now).threads t ≡ Some now
written_stands s w t was now stands = rw (shared_threads s w) (get_set_same s.threads t now (slice_get_within s.threads t was stands))

pub written_other : (s : State) (w : Shared) (t u : ℕ) (now : Thread) → (t ≡ u → ⊥) → slice_get (written s w t now).threads u ≡ slice_get s.threads u
written_other s w t u now differ = rw (shared_threads s w) (get_set_other s.threads t u now (λ e. differ (sym e)))

written_again : (s : State) (w : Shared) (t : ℕ) (x y : Thread) → with_standing (written s w t x) t y ≡ written s w t y
written_again s w t x y = ap (λ (threads : List Thread). let z : State = record (with_shared s w) { threads = threads } in z) (set-set (with_shared s w).threads t x y)

-- what one call or instruction writes, and that it does the same in each state that is like this one for its thread
record Once (s : State) (m : Move) (new : State) (event : Option Event) : Type 0 where
  pub wrote : Shared
  pub within : Within wrote (next_access s m.thread)
  pub now : Thread
  pub is : new ≡ written s wrote m.thread now
  pub there : (r : State) → IsLike m.thread s r → OneStep r m (written r wrote m.thread now) event × (picks_of r m.thread ≡ picks_of s m.thread)

pub picks_at : (s : State) (t k : ℕ) (f : Frame) (instr : Instr) → slice_get s.threads t ≡ Some (at_work k f) → instr_at s.component f.op f.place ≡ Some instr → picks_of s t ≡ instr_picks s f instr
picks_at s t k f instr stands at = rw (stands, at) refl

pub access_at : (s : State) (t k : ℕ) (f : Frame) (instr : Instr) → slice_get s.threads t ≡ Some (at_work k f) → instr_at s.component f.op f.place ≡ Some instr → next_access s t ≡ instr_access s.component f instr
access_at s t k f instr stands at = rw (stands, at) refl

once : (s new : State) (m : Move) (k : ℕ) (activity : Activity) (event : Option Event) → slice_get s.threads m.thread ≡ Some (record { done = k; activity = activity }) → ByActivity s m k activity new event → Once s m new event
once s new m k Idle event was h = record {
  wrote = Nothing;
  within = tt;
  now = at_work k (opened h.0);
  is = h.3;
  there = λ r like.
      (let stands : slice_get r.threads m.thread ≡ Some (idle k) = like.stands ∙ was in
      let picks : picks_of r m.thread ≡ picks_of s m.thread = rw (stands, was, like.matrix_is) refl in
      ((idle k, stands, (h.0, rw like.matrix_is h.1, h.2, refl, h.4)), picks));
}
once s new m k (Open f) event was h =
    let t = m.thread in
    let a = acting s m f h.0 h.1 h.2 h.5 in
    let at : next_access s t ≡ instr_access s.component f h.0 = access_at s t k f h.0 was h.3 in
    let now = thread_after k h.2 in
    record {
      wrote = a.wrote;
      within = subst (λ x. Within a.wrote x) (sym at) a.within;
      now = now;
      is = h.6 ∙ ap (λ (x : State). with_standing x t now) a.is;
      there = λ r like.
          (let stands : slice_get r.threads t ≡ Some (at_work k f) = like.stands ∙ was in
          let here : instr_at r.component f.op f.place ≡ Some h.0 = rw like.component h.3 in
          let on = a.there r like.component (subst (λ x. AccessSame s r x) at like.held) in
          ((at_work k f, stands, (h.0, with_shared r a.wrote, h.2, here, h.4, on.0, refl, h.7)), picks_at r t k f h.0 stands here ∙ (on.1 ∙ sym (picks_at s t k f h.0 was h.3))));
    }

-- what a move writes, and that it does the same in each state that is like this one for its thread
pub record DoesMove (s : State) (m : Move) (new : State) (event : Option Event) : Type 0 where
  pub wrote : Shared
  pub within : Within wrote (next_access s m.thread)
  pub was : Thread
  pub stood : slice_get s.threads m.thread ≡ Some was
  pub now : Thread
  pub is : new ≡ written s wrote m.thread now
  pub there : (r : State) → IsLike m.thread s r → Step r m (written r wrote m.thread now) event × (picks_of r m.thread ≡ picks_of s m.thread)

-- what a thread's only move writes, and that it does the same in each state that is like this one for it
pub record Does (s : State) (t : ℕ) (new : State) (event : Option Event) : Type 0 where
  pub wrote : Shared
  pub within : Within wrote (next_access s t)
  pub was : Thread
  pub stood : slice_get s.threads t ≡ Some was
  pub now : Thread
  pub is : new ≡ written s wrote t now
  pub there : (r : State) → IsLike t s r → Moves t r (written r wrote t now) event

-- two states in which a thread stands so are the same for it, as far as it runs on
same_for : (s r : State) (w : Shared) (t : ℕ) (was now : Thread) → slice_get s.threads t ≡ Some was → IsLike t s r → IsSame false t (written s w t now) (written r w t now)
same_for s r w t was now stands like = record {
  component = shared_component r w ∙ (like.component ∙ sym (shared_component s w));
  matrix_is = shared_matrix r w ∙ (like.matrix_is ∙ sym (shared_matrix s w));
  stands = written_stands r w t was now (like.stands ∙ stands) ∙ sym (written_stands s w t was now stands);
  shared = λ is. absurd (cc);
}

like_same : (s r : State) (t : ℕ) → IsLike t s r → IsSame false t s r
like_same s r t like = record { component = like.component; matrix_is = like.matrix_is; stands = like.stands; shared = λ is. absurd (cc) }

pub does_move : (s new : State) (m : Move) (event : Option Event) → Step s m new event → DoesMove s m new event
does_move s new m event step =
    let t = m.thread in
    let mid = step.0 in
    let thread : Thread = step.1.0 in
    let by : ByActivity s m thread.done thread.activity mid event = one_step_by s m mid event thread step.1.1 step.1 in
    let first = once s mid m thread.done thread.activity event step.1.1 by in
    let n = more_local s t in
    let start = written s first.wrote t first.now in
    let runs : RunsOn n start t new = subst (λ x. RunsOn n x t new) first.is step.2 in
    let here = written_stands s first.wrote t thread first.now step.1.1 in
    let last = ran n start t new first.now here runs in
    record {
      wrote = first.wrote;
      within = first.within;
      was = thread;
      stood = step.1.1;
      now = last.now;
      is = last.moved ∙ written_again s first.wrote t first.now last.now;
      there = λ r like.
          (let one = first.there r like in
          let begin = written r first.wrote t first.now in
          let stands = written_stands r first.wrote t thread first.now (like.stands ∙ step.1.1) in
          let same = same_for s r first.wrote t thread first.now step.1.1 like in
          let on = frame_runs false t n start new begin runs same in
          let end = ran n begin t on.there first.now stands on.runs in
          let at_end = written_stands begin Nothing t first.now end.now stands in
          let at_last = written_stands start Nothing t first.now last.now here in
          let now : end.now ≡ last.now = same_Some end.now last.now (sym at_end ∙ (ap (λ (x : State). slice_get x.threads t) (sym end.moved) ∙ (on.same.stands ∙ (ap (λ (x : State). slice_get x.threads t) last.moved ∙ at_last)))) in
          let is : on.there ≡ written r first.wrote t last.now = end.moved ∙ (written_again r first.wrote t first.now end.now ∙ ap (λ x. written r first.wrote t x) now) in
          let more : more_local r t ≡ n = more_alike false t s r (like_same s r t like) in
          let runs_on : RunsOn (more_local r t) begin t (written r first.wrote t last.now) = rw (more, ← is) on.runs in
          ((begin, one.0, runs_on), one.1));
    }

does : (s new : State) (t : ℕ) (event : Option Event) → Moves t s new event → Does s t new event
does s new t event moves =
    let move = does_move s new (only_move t) event moves.1 in
    record {
      wrote = move.wrote;
      within = move.within;
      was = move.was;
      stood = move.stood;
      now = move.now;
      is = move.is;
      there = λ r like. (let on = move.there r like in (on.1 ∙ moves.0, on.0));
    }

-- a location of an access that does not conflict with one that writes is another
other_location : (l : Location) (one writes other : Bool) → writes ≡ true → (if one && (writes || other) then Some l else None) ≡ None → one ≡ false
other_location l true true other w is = absurd (cc)
other_location l true false other w is = absurd (cc)
other_location l false writes other w is = refl

other_of : (b a : Access) → a.writes ≡ true → conflict (Some a) (Some b) ≡ None → are_one a.location b.location ≡ false
other_of b a writes none = other_location a.location (are_one a.location b.location) a.writes b.writes writes none

not_eq : (p q : ℕ) → (p == q) ≡ false → p ≡ q → ⊥
not_eq p q is e = absurd (grind (arith, nat_tests))

one_back : (l m : Location) → are_one l m ≡ false → are_one m l ≡ false
one_back (location.Cell p) (location.Cell q) is = grind (arith, nat_tests)
one_back (location.Cell p) (location.Lock l) is = refl
one_back (location.Lock l) (location.Cell p) is = refl
one_back (location.Lock l) (location.Lock m) is = grind (arith, nat_tests)

by_order : (x y : Location) (a b : Bool) (one back : Bool) → (one ≡ false → back ≡ false) → (if one && (a || b) then Some x else None) ≡ None → (if back && (b || a) then Some y else None) ≡ None
by_order x y true b true back h is = absurd (cc)
by_order x y false true true back h is = absurd (cc)
by_order x y false false true true h is = refl
by_order x y false false true false h is = refl
by_order x y a b false back h is = rw (h refl) refl

-- neither order of two accesses conflicts, where one doesn't
conflict_back : (a b : Option Access) → conflict a b ≡ None → conflict b a ≡ None
conflict_back None None is = refl
conflict_back None (Some b) is = refl
conflict_back (Some a) None is = refl
conflict_back (Some a) (Some b) is = by_order a.location b.location a.writes b.writes (are_one a.location b.location) (are_one b.location a.location) (one_back a.location b.location) is

holds_still : (s : State) (t : ℕ) (now : Thread) (l : Location) → HoldsSame s (with_standing s t now) l
holds_still s t now (location.Cell p) = refl
holds_still s t now (location.Lock l) = refl

holds_cell : (s : State) (p n t : ℕ) (now : Thread) (l : Location) → are_one (location.Cell p) l ≡ false → HoldsSame s (with_standing (with_cell s p n) t now) l
holds_cell s p n t now (location.Cell q) is = get_or-set_other s.cells p q n 0 (λ e. not_eq p q is (sym e))
holds_cell s p n t now (location.Lock l) is = refl

holds_owner : (s : State) (m : ℕ) (owner : Option ℕ) (t : ℕ) (now : Thread) (l : Location) → are_one (location.Lock m) l ≡ false → HoldsSame s (with_standing (with_owner s m owner) t now) l
holds_owner s m owner t now (location.Cell q) is = refl
holds_owner s m owner t now (location.Lock l) is = get_or-set_other s.locks m l owner None (λ e. not_eq m l is (sym e))

-- what one move writes leaves what the other accesses
holds_after : (s : State) (w : Shared) (t : ℕ) (now : Thread) (a b : Option Access) → Within w a → conflict a b ≡ None → AccessSame s (written s w t now) b
holds_after s w t now a None within none = tt
holds_after s Nothing t now a (Some b) within none = holds_still s t now b.location
holds_after s (Cell p n) t now a (Some b) within none = holds_cell s p n t now b.location (other_of b (of_cell true p) refl (subst (λ x. conflict x (Some b) ≡ None) within none))
holds_after s (Owner m owner) t now a (Some b) within none = holds_owner s m owner t now b.location (other_of b (of_lock m) refl (subst (λ x. conflict x (Some b) ≡ None) within none))

-- after a move of t all is the same for a move of u
pub like_behind : (s : State) (w : Shared) (t u : ℕ) (now : Thread) → Within w (next_access s t) → (t ≡ u → ⊥) → conflict (next_access s t) (next_access s u) ≡ None → IsLike u s (written s w t now)
like_behind s w t u now within differ none = record {
  component = shared_component s w;
  matrix_is = shared_matrix s w;
  stands = written_other s w t u now differ;
  held = holds_after s w t now (next_access s t) (next_access s u) within none;
}

like_after : (s r : State) (t u : ℕ) (event : Option Event) (d : Does s t r event) → (t ≡ u → ⊥) → conflict (next_access s t) (next_access s u) ≡ None → IsLike u s (written s d.wrote t d.now)
like_after s r t u event d differ none = like_behind s d.wrote t u d.now d.within differ none

pub set_both : {A : Type 0} (xs : List A) (i j : ℕ) (x y : A) → (i ≡ j → ⊥) → slice_set (slice_set xs i x) j y ≡ slice_set (slice_set xs j y) i x
set_both [] i j x y h = refl
set_both (z ∷ xs) zero zero x y h = absurd (h refl)
set_both (z ∷ xs) zero (suc j) x y h = refl
set_both (z ∷ xs) (suc i) zero x y h = refl
set_both (z ∷ xs) (suc i) (suc j) x y h = ap (λ l. z ∷ l) (set_both xs i j x y (λ e. h (ap suc e)))

-- states by their parts
state_parts : (c d : Component) (m n : Matrix) (x y : List ℕ) (k l : List (Option ℕ)) (t u : List Thread) → c ≡ d → m ≡ n → x ≡ y → k ≡ l → t ≡ u → let s : State = record { component = c; matrix = m; cells = x; locks = k; threads = t } in s ≡ record { component = d; matrix = n; cells = y; locks = l; threads = u }
state_parts c d m n x y k l t u e f g h i = rw (e, f, g, h, i) refl

-- what two such moves write may be written in either order
pub written_both : (s : State) (w x : Shared) (t u : ℕ) (now after : Thread) (a b : Option Access) → (t ≡ u → ⊥) → Within w a → Within x b → conflict a b ≡ None → written (written s w t now) x u after ≡ written (written s x u after) w t now
written_both s w x t u now after a b differ one two none = by w x one two
  where
    threads : slice_set (slice_set s.threads t now) u after ≡ slice_set (slice_set s.threads u after) t now
    threads = set_both s.threads t u now after differ

    cells : (p q n m : ℕ) → (p ≡ q → ⊥) → slice_set (slice_set s.cells p n) q m ≡ slice_set (slice_set s.cells q m) p n
    cells p q n m h = set_both s.cells p q n m h

    locks : (p q : ℕ) (n m : Option ℕ) → (p ≡ q → ⊥) → slice_set (slice_set s.locks p n) q m ≡ slice_set (slice_set s.locks q m) p n
    locks p q n m h = set_both s.locks p q n m h

    by : (w x : Shared) → Within w a → Within x b → written (written s w t now) x u after ≡ written (written s x u after) w t now
    by Nothing Nothing one two = rw threads refl
    by Nothing (Cell q m) one two = rw threads refl
    by Nothing (Owner q m) one two = rw threads refl
    by (Cell p n) Nothing one two = rw threads refl
    by (Cell p n) (Cell q m) one two = rw (threads, cells p q n m (not_eq p q (other_of (of_cell true q) (of_cell true p) refl (subst (λ y. conflict (Some (of_cell true p)) y ≡ None) two (subst (λ y. conflict y b ≡ None) one none))))) refl
    by (Cell p n) (Owner q m) one two = rw threads refl
    by (Owner p n) Nothing one two = rw threads refl
    by (Owner p n) (Cell q m) one two = rw threads refl
    by (Owner p n) (Owner q m) one two = rw (threads, locks p q n m (not_eq p q (other_of (of_lock q) (of_lock p) refl (subst (λ y. conflict (Some (of_lock p)) y ≡ None) two (subst (λ y. conflict y b ≡ None) one none))))) refl

-- the only moves of two threads that are independent commute, where their events have no more precedence in the other order
pub independent_commute : (table : DeadTable) (t u : ℕ) (s r c : State) (e f : Option Event) → Moves t s r e → Moves u s c f → AreIndependent t u s → AreUnordered e f → Commute table t u s
independent_commute table t u s r c e f one two (differ, none) unordered =
    let a = does s r t e one in
    let b = does s c u f two in
    let back = conflict_back (next_access s t) (next_access s u) none in
    let behind : Moves u r (written r b.wrote u b.now) f = subst (λ x. Moves u x (written x b.wrote u b.now) f) (sym a.is) (b.there (written s a.wrote t a.now) (like_after s r t u e a differ none)) in
    let other : Moves t c (written c a.wrote t a.now) e = subst (λ x. Moves t x (written x a.wrote t a.now) e) (sym b.is) (a.there (written s b.wrote u b.now) (like_after s c u t f b (λ x. differ (sym x)) back)) in
    let same : written c a.wrote t a.now ≡ written r b.wrote u b.now =
    ap (λ (x : State). written x a.wrote t a.now) b.is
    ∙ (sym (written_both s a.wrote b.wrote t u a.now b.now (next_access s t) (next_access s u) differ a.within b.within none)
    ∙ ap (λ (x : State). written x b.wrote u b.now) (sym a.is)) in
    let end = written r b.wrote u b.now in
    (end, end, e, f, (r, one, behind), (c, two, subst (λ x. Moves t c x e) same other), alike_itself table end, unordered)

-- an only move has one event
pub moves_event : (t : ℕ) (s r c : State) (e f : Option Event) → Moves t s r e → Moves t s c f → e ≡ f
moves_event t s r c e f one two = (step_same s (only_move t) r c e f one.1 two.1).1

-- the only moves of two threads that are independent commute where they are free, and only there
pub free_commute : (table : DeadTable) (t u : ℕ) (s : State) → picks_of s t ≡ 1 → picks_of s u ≡ 1 → AreIndependent t u s → AreFree t u s → Commute table t u s
free_commute table t u s first second independent free =
    let one = feasible_step s (only_move t) (omega (arith, first)) in
    let two = feasible_step s (only_move u) (omega (arith, second)) in
    independent_commute table t u s one.0 two.0 one.1 two.1 (first, one.2) (second, two.2) independent (free one.0 two.0 one.1 two.1 (first, one.2) (second, two.2))

pub commute_is_free : (table : DeadTable) (t u : ℕ) (s : State) → Commute table t u s → AreFree t u s
commute_is_free table t u s commute = λ r c e f one two.
    (let first = moves_event t s commute.4.0 r commute.2 e commute.4.1 one in
    let second = moves_event u s commute.5.0 c commute.3 f commute.5.1 two in
    rw (← first, ← second) commute.7)

-- the event of a move of thread t: none, or that a call of it is opened or returns
abbrev pub IsEventOf : ℕ → Option Event → Type 0
IsEventOf t None = Unit {0}
IsEventOf t (Some (Called u k)) = u ≡ t
IsEventOf t (Some (Returned u k outcome)) = u ≡ t

-- no call is opened
abbrev pub OpensNone : Option Event → Type 0
OpensNone None = Unit {0}
OpensNone (Some (Called u k)) = ⊥
OpensNone (Some (Returned u k outcome)) = Unit {0}

effect_event : (t done : ℕ) (effect : Effect) → IsEventOf t (event_after t done effect) × OpensNone (event_after t done effect)
effect_event t done (GoesOn f) = (tt, tt)
effect_event t done (Ends outcome) = (refl, tt)

turn_event : (s : State) (t done : ℕ) (activity : Activity) (now : Thread) (event : Option Event) → Turns s t done activity now event → IsEventOf t event
turn_event s t done Idle now event turns = rw turns.4 refl
turn_event s t done (Open f) now event turns = rw turns.2 ((effect_event t done turns.0).0)

pub step_event : (s r : State) (m : Move) (event : Option Event) → Step s m r event → IsEventOf m.thread event
step_event s r m event step =
    let moved = step_moved s m r event step in
    turn_event s m.thread moved.standing.done moved.standing.activity moved.now event moved.turns

event_is_of : (s r : State) (t : ℕ) (event : Option Event) → Moves t s r event → IsEventOf t event
event_is_of s r t event moves = step_event s r (only_move t) event moves.1

turn_opens : (s : State) (t done : ℕ) (activity : Activity) (now : Thread) (event : Option Event) → (activity ≡ Idle → ⊥) → Turns s t done activity now event → OpensNone event
turn_opens s t done Idle now event busy turns = absurd (busy refl)
turn_opens s t done (Open f) now event busy turns = rw turns.2 ((effect_event t done turns.0).1)

pub step_opens : (s r : State) (m : Move) (event : Option Event) → ((k : ℕ) → slice_get s.threads m.thread ≡ Some (idle k) → ⊥) → Step s m r event → OpensNone event
step_opens s r m event busy step =
    let moved = step_moved s m r event step in
    turn_opens s m.thread moved.standing.done moved.standing.activity moved.now event (λ is. busy moved.standing.done (moved.stands ∙ ap (λ (a : Activity). let x : Thread = record { done = moved.standing.done; activity = a } in Some x) is)) moved.turns

opens_none : (s r : State) (t : ℕ) (event : Option Event) → ((k : ℕ) → slice_get s.threads t ≡ Some (idle k) → ⊥) → Moves t s r event → OpensNone event
opens_none s r t event busy moves = step_opens s r (only_move t) event busy moves.1

pub unordered_by : (t u : ℕ) (e f : Option Event) → (t ≡ u → ⊥) → IsEventOf t e → OpensNone e → IsEventOf u f → AreUnordered e f
unordered_by t u None f differ one opens two = tt
unordered_by t u (Some (Called v k)) f differ one opens two = absurd opens
unordered_by t u (Some (Returned v k outcome)) None differ one opens two = tt
unordered_by t u (Some (Returned v k outcome)) (Some (Called w l)) differ one opens two = tt
unordered_by t u (Some (Returned v k outcome)) (Some (Returned w l other)) differ one opens two = λ same. differ (sym one ∙ (same ∙ two))

-- a thread that has an operation open makes no event that may not stand after another's
pub open_free : (t u : ℕ) (s : State) → (t ≡ u → ⊥) → ((k : ℕ) → slice_get s.threads t ≡ Some (idle k) → ⊥) → AreFree t u s
open_free t u s differ busy = λ r c e f one two. unordered_by t u e f differ (event_is_of s r t e one) (opens_none s r t e busy one) (event_is_of s c u f two)

-- ---- moves that access one location, of which one may change it

-- nothing is written but at this location
abbrev pub WritesAt : Shared → Location → Type 0
WritesAt Nothing l = Unit {0}
WritesAt (Cell p n) l = location.Cell p ≡ l
WritesAt (Owner m owner) l = location.Lock m ≡ l

one_same : (l m : Location) → are_one l m ≡ true → l ≡ m
one_same (location.Cell p) (location.Cell q) is = (let e : p ≡ q = grind (arith, nat_tests) in ap (λ n. location.Cell n) e)
one_same (location.Cell p) (location.Lock l) is = absurd (cc)
one_same (location.Lock l) (location.Cell p) is = absurd (cc)
one_same (location.Lock l) (location.Lock m) is = (let e : l ≡ m = grind (arith, nat_tests) in ap (λ n. location.Lock n) e)

at_location : (a : Access) (l m : Location) (one other : Bool) → (one ≡ true → a.location ≡ m) → (if one && other then Some a.location else None) ≡ Some l → (a.location ≡ l) × (m ≡ l)
at_location a l m true true same is = (let e = same_Some a.location l is in (e, sym (same refl) ∙ e))
at_location a l m true false same is = absurd (cc)
at_location a l m false other same is = absurd (cc)

-- both accesses are of the location of a conflict
pub conflict_at : (a b : Option Access) (l : Location) → conflict a b ≡ Some l → (x : Access) × (y : Access) × (a ≡ Some x) × (b ≡ Some y) × (x.location ≡ l) × (y.location ≡ l)
conflict_at None b l is = absurd (cc)
conflict_at (Some a) None l is = absurd (cc)
conflict_at (Some a) (Some b) l is =
    let at = at_location a l b.location (are_one a.location b.location) (a.writes || b.writes) (λ e. one_same a.location b.location e) is in
    (a, b, refl, refl, at.0, at.1)

writes_at : (w : Shared) (a : Option Access) (x : Access) (l : Location) → Within w a → a ≡ Some x → x.location ≡ l → WritesAt w l
writes_at Nothing a x l within is at = tt
writes_at (Cell p n) a x l within is at = (let same = same_Some (of_cell true p) x (sym within ∙ is) in ap (λ (y : Access). y.location) same ∙ at)
writes_at (Owner m owner) a x l within is at = (let same = same_Some (of_lock m) x (sym within ∙ is) in ap (λ (y : Access). y.location) same ∙ at)

-- two states have the same cells and locks, but at the location
abbrev pub AreAlikeBut : Location → State → State → Type 0
AreAlikeBut (location.Cell p) s r =
    ((v : ℕ) → slice_set r.cells p v ≡ slice_set s.cells p v) × (r.locks ≡ s.locks)
AreAlikeBut (location.Lock l) s r =
    (r.cells ≡ s.cells) × ((o : Option ℕ) → slice_set r.locks l o ≡ slice_set s.locks l o)

alike_still : (l : Location) (s : State) (t : ℕ) (now : Thread) → AreAlikeBut l s (with_standing s t now)
alike_still (location.Cell p) s t now = (λ v. refl, refl)
alike_still (location.Lock l) s t now = (refl, λ o. refl)

alike_after : (l : Location) (s : State) (w : Shared) (t : ℕ) (now : Thread) → WritesAt w l → AreAlikeBut l s (written s w t now)
alike_after l s Nothing t now at = alike_still l s t now
alike_after l s (Cell p n) t now at = subst (λ x. AreAlikeBut x s (written s (Cell p n) t now)) at (λ v. set-set s.cells p n v, refl)
alike_after l s (Owner m owner) t now at = subst (λ x. AreAlikeBut x s (written s (Owner m owner) t now)) at (refl, λ o. set-set s.locks m owner o)

pub alike_trans : (l : Location) (s r x : State) → AreAlikeBut l s r → AreAlikeBut l r x → AreAlikeBut l s x
alike_trans (location.Cell p) s r x one two = (λ v. two.0 v ∙ one.0 v, two.1 ∙ one.1)
alike_trans (location.Lock l) s r x one two = (two.0 ∙ one.0, λ o. two.1 o ∙ one.1 o)

abbrev value_in : Held → ℕ
value_in (Value n) = n
value_in (OwnedBy o) = 0

abbrev owner_in : Held → Option ℕ
owner_in (Value n) = None
owner_in (OwnedBy o) = o

list_same : {A : Type 0} (xs ys : List A) (i : ℕ) (d : A) → ((v : A) → slice_set ys i v ≡ slice_set xs i v) → get_or xs i d ≡ get_or ys i d → xs ≡ ys
list_same xs ys i d but at = sym (set-get_or xs i d) ∙ (ap (λ v. slice_set xs i v) at ∙ (sym (but (get_or ys i d)) ∙ set-get_or ys i d))

-- what is alike but at the location, and there, is the same
pub shared_same : (l : Location) (x y : State) → AreAlikeBut l x y → held_at x l ≡ held_at y l → (x.cells ≡ y.cells) × (x.locks ≡ y.locks)
shared_same (location.Cell p) x y but held = (list_same x.cells y.cells p 0 but.0 (ap value_in held), sym but.1)
shared_same (location.Lock l) x y but held = (sym but.0, list_same x.locks y.locks l None but.1 (ap owner_in held))

pub alike_back : (l : Location) (s r : State) → AreAlikeBut l s r → AreAlikeBut l r s
alike_back (location.Cell p) s r but = (λ v. sym (but.0 v), sym but.1)
alike_back (location.Lock l) s r but = (sym but.0, λ o. sym (but.1 o))

access_like : (s r : State) (t : ℕ) → r.component ≡ s.component → slice_get r.threads t ≡ slice_get s.threads t → next_access r t ≡ next_access s t
access_like s r t component stands = rw (component, stands) refl

-- where two moves of threads that differ lead, one after the other
pub record Reaches (s end : State) (t u : ℕ) (l : Location) : Type 0 where
  pub component : end.component ≡ s.component
  pub matrix_is : end.matrix ≡ s.matrix
  pub alike : AreAlikeBut l s end
  pub first : Thread
  pub second : Thread
  pub threads : end.threads ≡ slice_set (slice_set s.threads t first) u second
  pub first_stands : slice_get end.threads t ≡ Some first
  pub second_stands : slice_get end.threads u ≡ Some second

pub ends_at : (t u : ℕ) (s end : State) (e f : Option Event) (l : Location) (x y : Access) → MovesBoth t u s end e f → (t ≡ u → ⊥) → next_access s t ≡ Some x → next_access s u ≡ Some y → x.location ≡ l → y.location ≡ l → Reaches s end t u l
ends_at t u s end e f l x y both differ first second first_at second_at =
    let r = both.0 in
    let a = does s r t e both.1 in
    let b = does r end u f both.2 in
    let component : r.component ≡ s.component = ap (λ (z : State). z.component) a.is ∙ shared_component s a.wrote in
    let matrix_is : r.matrix ≡ s.matrix = ap (λ (z : State). z.matrix) a.is ∙ shared_matrix s a.wrote in
    let stands : slice_get r.threads u ≡ slice_get s.threads u = ap (λ (z : State). slice_get z.threads u) a.is ∙ written_other s a.wrote t u a.now differ in
    let access : next_access r u ≡ Some y = access_like s r u component stands ∙ second in
    let one : AreAlikeBut l s r = rw a.is (alike_after l s a.wrote t a.now (writes_at a.wrote (next_access s t) x l a.within first first_at)) in
    let two : AreAlikeBut l r end = rw b.is (alike_after l r b.wrote u b.now (writes_at b.wrote (next_access r u) y l b.within access second_at)) in
    record {
      component = ap (λ (z : State). z.component) b.is ∙ (shared_component r b.wrote ∙ component);
      matrix_is = ap (λ (z : State). z.matrix) b.is ∙ (shared_matrix r b.wrote ∙ matrix_is);
      alike = alike_trans l s r end one two;
      first = a.now;
      second = b.now;
      threads =
          ap (λ (z : State). z.threads) b.is
          ∙ (ap (λ (z : List Thread). slice_set z u b.now) (shared_threads r b.wrote ∙ (ap (λ (z : State). z.threads) a.is ∙ ap (λ (z : List Thread). slice_set z t a.now) (shared_threads s a.wrote))));
      first_stands =
          ap (λ (z : State). slice_get z.threads t) b.is
          ∙ (written_other r b.wrote u t b.now (λ z. differ (sym z))
          ∙ (ap (λ (z : State). slice_get z.threads t) a.is ∙ written_stands s a.wrote t a.was a.now a.stood));
      second_stands = ap (λ (z : State). slice_get z.threads u) b.is ∙ written_stands r b.wrote u b.was b.now b.stood;
    }

-- a move takes no location away
holds_location : (s : State) (w : Shared) (t : ℕ) (now : Thread) (l : Location) → HasLocation s l → HasLocation (written s w t now) l
holds_location s Nothing t now (location.Cell p) has = has
holds_location s Nothing t now (location.Lock l) has = has
holds_location s (Cell q n) t now (location.Cell p) has = rw (length-set s.cells q n) has
holds_location s (Cell q n) t now (location.Lock l) has = has
holds_location s (Owner m owner) t now (location.Cell p) has = has
holds_location s (Owner m owner) t now (location.Lock l) has = has

pub has_location : (t u : ℕ) (s end : State) (e f : Option Event) (l : Location) → MovesBoth t u s end e f → HasLocation s l → HasLocation end l
has_location t u s end e f l both has =
    let a = does s both.0 t e both.1 in
    let b = does both.0 end u f both.2 in
    let there : HasLocation both.0 l = rw a.is (holds_location s a.wrote t a.now l has) in
    rw b.is (holds_location both.0 b.wrote u b.now l there)

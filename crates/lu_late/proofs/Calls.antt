-- A call changes where its thread stands, and nothing else: so it may come after the move of another thread.
use Rattle.std.proofs.Common.{◌≡◌, ℕ, ◌⊎◌, true, false, Option, None, Some, slice_get, refl, sym, ◌∙◌, ap, subst, inl, inr}
use Rattle.std.proofs.lemmas.Option.{same_Some}
use Rattle.lu_component.specs.declared.instr.Instr.{Instr}
use Rattle.lu_component.specs.declared.instr.Instr.TheVariants.{Set, Compute, Load, Store, Cas, Lock, Unlock, Await, AwaitNot, Pick, Jump, JumpIfZero, Return}
use Rattle.lu_test.specs.declared.schedule.Move.{Move}
use Rattle.lu_machine.specs.declared.event.Event.{Event}
use Rattle.lu_machine.specs.declared.event.Event.TheVariants.{Call as Called, Return as Returned}
use Rattle.lu_machine.specs.declared.thread.Activity.{Activity}
use Rattle.lu_machine.specs.declared.thread.Activity.TheVariants.{Idle, Open}
use Rattle.lu_machine.specs.declared.thread.Frame.{Frame}
use Rattle.lu_machine.specs.declared.thread.Thread.{Thread}
use Rattle.lu_machine.specs.declared.undo.Shared.{Shared}
use Rattle.lu_machine.specs.declared.undo.Shared.TheVariants.{Nothing, Cell, Owner}
use Rattle.lu_machine.specs.Changes.{at_work, idle}
use Rattle.lu_machine.specs.States.{State, cell_at}
use Rattle.lu_machine.specs.Steps.{Step}
use Rattle.lu_machine.proofs.Keeping.{Turns, step_moved}
use Rattle.lu_horizon.proofs.OwnLaws.{itself_stands, other_stands}
use Rattle.lu_tree.specs.Accesses.{next_access}
use Rattle.lu_tree.specs.Reordered.{AreUnordered}
use Rattle.lu_tree.proofs.Accessing.{IsEventOf, Within, step_event, written, written_other}
use Rattle.lu_graph.proofs.Apart.{IsNear, LooksSame, both_written, cell_still, does_near, shared_component, shared_matrix}
use Rattle.lu_late.specs.Steps.{IsIdle}

-- ---- idle threads

not_both : (k j : ℕ) (f : Frame) (o : Option Thread) → o ≡ Some (idle k) → o ≡ Some (at_work j f) → ⊥
not_both k j f o a b = (let same : Idle ≡ Open f = ap (λ (x : Thread). x.activity) (same_Some (idle k) (at_work j f) (sym a ∙ b)) in cc)

pub idle_or_not : (s : State) (t : ℕ) → IsIdle s t ⊎ (IsIdle s t → ⊥)
idle_or_not s t = by_thread (slice_get s.threads t) refl
  where
    by_activity : (k : ℕ) (a : Activity) → slice_get s.threads t ≡ Some (record { done = k; activity = a }) → IsIdle s t ⊎ (IsIdle s t → ⊥)
    by_activity k Idle is = inl (k, is)
    by_activity k (Open f) is = inr (λ x. not_both x.0 k f (slice_get s.threads t) x.1 is)

    by_thread : (o : Option Thread) → slice_get s.threads t ≡ o → IsIdle s t ⊎ (IsIdle s t → ⊥)
    by_thread None is = inr (λ x. (let none : None ≡ Some (idle x.0) = sym is ∙ x.1 in cc))
    by_thread (Some thread) is = by_activity thread.done thread.activity is

-- a thread stays idle as others move, and was so before
pub idle_on : (s : State) (x : Move) (next : State) (event : Option Event) (t : ℕ) → (x.thread ≡ t → ⊥) → Step s x next event → IsIdle s t → IsIdle next t
idle_on s x next event t differ step is = (is.0, other_stands s x next event t differ step ∙ is.1)

pub idle_back : (s : State) (x : Move) (next : State) (event : Option Event) (t : ℕ) → (x.thread ≡ t → ⊥) → Step s x next event → IsIdle next t → IsIdle s t
idle_back s x next event t differ step is = (is.0, sym (other_stands s x next event t differ step) ∙ is.1)

-- what an idle thread does is a call
pub calls : (s : State) (m : Move) (next : State) (event : Option Event) (is : IsIdle s m.thread) (step : Step s m next event) → (now : Thread) × (slice_get next.threads m.thread ≡ Some now) × Turns s m.thread is.0 Idle now event
calls s m next event is step =
    let moved = step_moved s m next event step in
    let standing : moved.standing ≡ idle is.0 = same_Some moved.standing (idle is.0) (sym moved.stands ∙ is.1) in (
      moved.now,
      itself_stands s next m.thread moved.standing moved.now moved.stands moved.threads,
      subst (λ (x : Thread). Turns s m.thread x.done x.activity moved.now event) standing moved.turns,
    )

-- after it the thread is not idle
pub call_opens : (s : State) (m : Move) (next : State) (event : Option Event) → IsIdle s m.thread → Step s m next event → IsIdle next m.thread → ⊥
call_opens s m next event is step then =
    let c = calls s m next event is step in
    let turns = c.2 in
    not_both then.0 is.0 turns.2 (slice_get next.threads m.thread) then.1 (c.1 ∙ ap (λ (x : Thread). Some x) turns.3)

-- its event is the call
pub call_event : (s : State) (m : Move) (next : State) (event : Option Event) (is : IsIdle s m.thread) → Step s m next event → event ≡ Some (Called m.thread is.0)
call_event s m next event is step = let c = calls s m next event is step in let turns = c.2 in turns.4

-- ---- a call changes where its thread stands, and nothing else

no_access : (s : State) (t : ℕ) → IsIdle s t → next_access s t ≡ None
no_access s t is = rw is.1 refl

nothing_written : (w : Shared) → Within w None → w ≡ Nothing
nothing_written Nothing within = refl
nothing_written (Cell p n) within = absurd (cc)
nothing_written (Owner l owner) within = absurd (cc)

pub record StandsOnly (s : State) (t : ℕ) (next : State) : Type 0 where
  pub now : Thread
  pub is : next ≡ written s Nothing t now

pub stands_only : (s : State) (m : Move) (next : State) (event : Option Event) → IsIdle s m.thread → Step s m next event → StandsOnly s m.thread next
stands_only s m next event is step =
    let a = does_near s next m event step in
    let wrote : a.wrote ≡ Nothing = nothing_written a.wrote (subst (Within a.wrote) (no_access s m.thread is) a.within) in
    record { now = a.now; is = a.is ∙ ap (λ (w : Shared). written s w m.thread a.now) wrote }

-- ---- it may come after the move of another thread

looks_before_call : (s : State) (t u : ℕ) (now : Thread) (f : Frame) (instr : Instr) → LooksSame (written s Nothing t now) s u f instr
looks_before_call s t u now f (Set to v) = tt
looks_before_call s t u now f (Compute by to x y) = tt
looks_before_call s t u now f (Load to w i) = cell_still (written s Nothing t now) s false (cell_at s f w i) (λ p is. refl)
looks_before_call s t u now f (Store w i v) = cell_still (written s Nothing t now) s true (cell_at s f w i) (λ p is. refl)
looks_before_call s t u now f (Cas to w i x y) = cell_still (written s Nothing t now) s true (cell_at s f w i) (λ p is. refl)
looks_before_call s t u now f (Lock l) = λ free. free
looks_before_call s t u now f (Unlock l) = refl
looks_before_call s t u now f (Await w i v) = cell_still (written s Nothing t now) s false (cell_at s f w i) (λ p is. refl)
looks_before_call s t u now f (AwaitNot w i v) = cell_still (written s Nothing t now) s false (cell_at s f w i) (λ p is. refl)
looks_before_call s t u now f (Pick to count) = tt
looks_before_call s t u now f (Jump target) = tt
looks_before_call s t u now f (JumpIfZero v target) = tt
looks_before_call s t u now f (Return v) = tt

before_call : (u t k : ℕ) (e : Option Event) → (u ≡ t → ⊥) → IsEventOf u e → AreUnordered e (Some (Called t k))
before_call u t k None differ of = tt
before_call u t k (Some (Called v l)) differ of = λ same. differ (sym of ∙ same)
before_call u t k (Some (Returned v l outcome)) differ of = tt

-- the call c may come after the move m
pub record After (s : State) (c m : Move) (end : State) (event other : Option Event) : Type 0 where
  pub now : State
  pub step : Step s m now other
  pub after : Step now c end event
  pub unordered : AreUnordered other event

pub comes_after : (s mid end : State) (c m : Move) (event other : Option Event) → IsIdle s c.thread → (c.thread ≡ m.thread → ⊥) → Step s c mid event → Step mid m end other → After s c m end event other
comes_after s mid end c m event other is differ one two =
    let t = c.thread in
    let u = m.thread in
    let apart : u ≡ t → ⊥ = λ e. differ (sym e) in
    let a = does_near s mid c event one in
    let b = does_near mid end m other two in
    let wrote : a.wrote ≡ Nothing = nothing_written a.wrote (subst (Within a.wrote) (no_access s t is) a.within) in
    let mid_is : mid ≡ written s Nothing t a.now = a.is ∙ ap (λ (w : Shared). written s w t a.now) wrote in
    let back : IsNear u mid s = record {
      component = sym (ap (λ (z : State). z.component) mid_is);
      matrix_is = sym (ap (λ (z : State). z.matrix) mid_is);
      stands = sym (other_stands s c mid event u differ one);
      looks = λ k f instr stands at. subst (λ (z : State). LooksSame z s u f instr) (sym mid_is) (looks_before_call s t u a.now f instr);
    } in
    let now = written s b.wrote u b.now in
    let near : IsNear t s now = record {
      component = shared_component s b.wrote;
      matrix_is = shared_matrix s b.wrote;
      stands = written_other s b.wrote u t b.now apart;
      looks = λ k f instr stands at. absurd (not_both is.0 k f (slice_get s.threads t) is.1 stands);
    } in
    let same : written now a.wrote t a.now ≡ end =
    ap (λ (w : Shared). written now w t a.now) wrote
    ∙ (sym (both_written s Nothing b.wrote t u a.now b.now differ tt)
    ∙ (ap (λ (z : State). written z b.wrote u b.now) (sym mid_is) ∙ sym b.is)) in
    record {
      now = now;
      step = b.there s back;
      after = subst (λ z. Step now c z event) same (a.there now near);
      unordered = subst (AreUnordered other) (sym (call_event s c mid event is one)) (before_call u t is.0 other apart (step_event mid end m other two));
    }

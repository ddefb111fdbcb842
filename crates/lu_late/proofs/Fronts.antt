-- The move of a thread that is at a left mover comes before a move of another thread, wherever they lead. (lu_graph has it for schedules that end.)
use Rattle.std.proofs.Common.{arith, ◌≡◌, ℕ, ◌==◌, ◌&&◌, ◌||◌, if◌then◌else◌, is_some, Bool, true, false, List, ◌∷◌, length, Option, None, Some, slice_get, refl, sym, ◌∙◌, ap, subst}
use Rattle.std.specs.Option.{option_and_then, option_map}
use Rattle.std.proofs.lemmas.Bool.{and_parts, eq-eqb}
use Rattle.std.proofs.lemmas.Bool.Decides.{nat_tests}
use Rattle.std.proofs.lemmas.Option.{same_Some}
use Rattle.lu_component.specs.Component.{Component}
use Rattle.lu_component.specs.declared.instr.Instr.{Instr}
use Rattle.lu_component.specs.declared.instr.Operand.{Operand}
use Rattle.lu_component.specs.declared.instr.Instr.TheVariants.{Set, Compute, Load, Store, Cas, Lock, Unlock, Await, AwaitNot, Pick, Jump, JumpIfZero, Return}
use Rattle.lu_test.specs.declared.schedule.Move.{Move}
use Rattle.lu_machine.specs.declared.event.Event.{Event}
use Rattle.lu_machine.specs.declared.thread.Activity.{Activity}
use Rattle.lu_machine.specs.declared.thread.Activity.TheVariants.{Idle, Open}
use Rattle.lu_machine.specs.declared.thread.Frame.{Frame}
use Rattle.lu_machine.specs.declared.thread.Thread.{Thread}
use Rattle.lu_machine.specs.Changes.{at_work}
use Rattle.lu_machine.specs.Runs.{Leads, with_event}
use Rattle.lu_machine.specs.Effects.{value_of}
use Rattle.lu_machine.specs.States.{State, cell_at, cell_of, instr_at, owner_of, value_at}
use Rattle.lu_machine.specs.Steps.{Step, owns}
use Rattle.lu_machine.proofs.Keeping.{step_moved}
use Rattle.lu_horizon.proofs.OwnLaws.{other_stands}
use Rattle.lu_machine.specs.declared.undo.Shared.{Shared}
use Rattle.lu_machine.specs.declared.undo.Shared.TheVariants.{Nothing, Cell, Owner}
use Rattle.lu_tree.specs.Accesses.{activity_access, conflict, instr_access, next_access, of_cell, of_lock}
use Rattle.lu_tree.specs.Reordered.{AreReordered, AreUnordered}
use Rattle.lu_tree.proofs.Accessing.{AccessSame, Within, access_at, step_event, step_opens, unordered_by, written, written_other}
use Rattle.lu_tree.proofs.Reordering.{reordered_both, reordered_same}
use Rattle.lu_graph.specs.First.{IsAside, StandsAside}
use Rattle.lu_graph.specs.Guards.{IsGuarded, array_of}
use Rattle.lu_graph.proofs.Apart.{AreAtOthers, GivesBack, IsAtCell, IsNear, LooksSame, aside_instr, back_apart, both_written, cell_still, does_near, looks_still, no_lock, owner_is, owner_owns, owns_still, shared_component, shared_matrix, value_still}
use Rattle.lu_graph.proofs.Guarded.{IsOwned, one_accesses, one_array}
use Rattle.lu_graph.proofs.Aside.{InFront, busy, event_before, events_turned, stays_aside}

-- ---- its move stands aside

-- the move m may come before the move x
record Aside (s : State) (m x : Move) (end : State) (event other : Option Event) : Type 0 where
  pub now : State
  pub step : Step s m now event
  pub after : Step now x end other
  pub unordered : AreUnordered event other

-- an instruction that accesses a cell, and its array
record Accesses (s : State) (t p : ℕ) : Type 0 where
  pub done : ℕ
  pub frame : Frame
  pub stands : slice_get s.threads t ≡ Some (at_work done frame)
  pub instr : Instr
  pub at : instr_at s.component frame.op frame.place ≡ Some instr
  pub array : ℕ
  pub of : array_of instr ≡ Some array
  pub index : ℕ
  pub cell : cell_of s.component array index ≡ Some p

no_cell : (l : ℕ) (writes : Bool) (p : ℕ) → Some (of_lock l) ≡ Some (of_cell writes p) → ⊥
no_cell l writes p is = no_lock writes (Some p) l (sym is)

none_cell : (writes : Bool) (p : ℕ) → None ≡ Some (of_cell writes p) → ⊥
none_cell writes p is = cc

chosen : {A : Type 0} (x : A) (b : Bool) → is_some (if b then Some x else None) ≡ true → b ≡ true
chosen x true is = refl
chosen x false is = absurd (cc)

cell_is : (a b : Bool) (o : Option ℕ) (p : ℕ) → option_map (of_cell a) o ≡ Some (of_cell b p) → o ≡ Some p
cell_is a b None p is = absurd (cc)
cell_is a b (Some q) p is =
    let one : is_some (conflict (Some (of_cell true p)) (Some (of_cell b p))) ≡ true = rw (eq-eqb p p refl) refl in
    let same : is_some (conflict (Some (of_cell true p)) (Some (of_cell a q))) ≡ true = ap (λ x. is_some (conflict (Some (of_cell true p)) x)) is ∙ one in
    let both : ((p == q) && (true || a)) ≡ true = chosen _ ((p == q) && (true || a)) same in
    let here : (p == q) ≡ true = (and_parts (p == q) (true || a) both).0 in
    let e : p ≡ q = grind (arith, nat_tests) in
    ap (λ (x : ℕ). Some x) (sym e)

module _ (s : State) (t p k : ℕ) (f : Frame) (stands : slice_get s.threads t ≡ Some (at_work k f)) where
  accesses_array : (instr : Instr) → instr_at s.component f.op f.place ≡ Some instr → (w : ℕ) (i : Operand) → array_of instr ≡ Some w → cell_at s f w i ≡ Some p → Accesses s t p
  accesses_array instr at w i of cell = record { done = k; frame = f; stands = stands; instr = instr; at = at; array = w; of = of; index = value_of f i; cell = cell }

  accesses_instr : (instr : Instr) → instr_at s.component f.op f.place ≡ Some instr → (b : Bool) → instr_access s.component f instr ≡ Some (of_cell b p) → Accesses s t p
  accesses_instr (Set to v) at b is = absurd (none_cell b p is)
  accesses_instr (Compute by to x y) at b is = absurd (none_cell b p is)
  accesses_instr (Load to w i) at b is = accesses_array (Load to w i) at w i refl (cell_is false b (cell_at s f w i) p is)
  accesses_instr (Store w i v) at b is = accesses_array (Store w i v) at w i refl (cell_is true b (cell_at s f w i) p is)
  accesses_instr (Cas to w i x y) at b is = accesses_array (Cas to w i x y) at w i refl (cell_is true b (cell_at s f w i) p is)
  accesses_instr (Lock l) at b is = absurd (no_cell l b p is)
  accesses_instr (Unlock l) at b is = absurd (no_cell l b p is)
  accesses_instr (Await w i v) at b is = accesses_array (Await w i v) at w i refl (cell_is false b (cell_at s f w i) p is)
  accesses_instr (AwaitNot w i v) at b is = accesses_array (AwaitNot w i v) at w i refl (cell_is false b (cell_at s f w i) p is)
  accesses_instr (Pick to count) at b is = absurd (none_cell b p is)
  accesses_instr (Jump target) at b is = absurd (none_cell b p is)
  accesses_instr (JumpIfZero v target) at b is = absurd (none_cell b p is)
  accesses_instr (Return v) at b is = absurd (none_cell b p is)

  accesses_here : (o : Option Instr) → instr_at s.component f.op f.place ≡ o → (b : Bool) → option_and_then (instr_access s.component f) o ≡ Some (of_cell b p) → Accesses s t p
  accesses_here None at b is = absurd (none_cell b p is)
  accesses_here (Some instr) at b is = accesses_instr instr at b is

accesses_so : (s : State) (t p k : ℕ) (a : Activity) → slice_get s.threads t ≡ Some (record { done = k; activity = a }) → (b : Bool) → activity_access s.component a ≡ Some (of_cell b p) → Accesses s t p
accesses_so s t p k Idle stands b is = absurd (none_cell b p is)
accesses_so s t p k (Open f) stands b is = accesses_here s t p k f stands (instr_at s.component f.op f.place) refl b is

accesses_by : (s : State) (t p : ℕ) (o : Option Thread) → slice_get s.threads t ≡ o → (b : Bool) → option_and_then (λ thread. activity_access s.component thread.activity) o ≡ Some (of_cell b p) → Accesses s t p
accesses_by s t p None stands b is = absurd (none_cell b p is)
accesses_by s t p (Some thread) stands b is = accesses_so s t p thread.done thread.activity stands b is

accesses : (s : State) (t p : ℕ) → IsAtCell s t p → Accesses s t p
accesses s t p (b, is) = accesses_by s t p (slice_get s.threads t) refl b is

none_array : (w : ℕ) → None ≡ Some w → ⊥
none_array w is = cc

-- where it stands aside, its array is guarded
array_guarded : (c : Component) (instr : Instr) (w : ℕ) → StandsAside c instr → array_of instr ≡ Some w → IsGuarded c w
array_guarded c (Set to v) w is of = absurd (none_array w of)
array_guarded c (Compute by to x y) w is of = absurd (none_array w of)
array_guarded c (Load to v i) w is of = subst (IsGuarded c) (same_Some v w of) is
array_guarded c (Store v i x) w is of = subst (IsGuarded c) (same_Some v w of) is
array_guarded c (Cas to v i x y) w is of = subst (IsGuarded c) (same_Some v w of) is
array_guarded c (Lock l) w is of = absurd (none_array w of)
array_guarded c (Unlock l) w is of = absurd (none_array w of)
array_guarded c (Await v i x) w is of = absurd (cc)
array_guarded c (AwaitNot v i x) w is of = absurd (cc)
array_guarded c (Pick to count) w is of = absurd (none_array w of)
array_guarded c (Jump target) w is of = absurd (none_array w of)
array_guarded c (JumpIfZero v target) w is of = absurd (none_array w of)
array_guarded c (Return v) w is of = absurd (none_array w of)

-- so another thread accesses none of its cells
others_aside : (s : State) (t u : ℕ) → (t ≡ u → ⊥) → IsOwned s → IsAside s t → AreAtOthers s t u
others_aside s t u differ owned is p mine other =
    let x = accesses s t p mine in
    let y = accesses s u p other in
    let aside = aside_instr s t x.done x.frame x.instr x.stands x.at is in
    let guarded = array_guarded s.component x.instr x.array aside x.of in
    let same : x.array ≡ y.array = one_array s.component x.array y.array x.index y.index p x.cell y.cell in
    differ (one_accesses s x.array t u x.done y.done x.frame y.frame x.instr y.instr owned guarded x.stands y.stands x.at y.at x.of (subst (λ w. array_of y.instr ≡ Some w) (sym same) y.of))

-- what it looks at is the same before the others' move, where its thread owns the same locks, and its cells have the same values
module _ (s r : State) (t : ℕ) (f : Frame) (own : (l : ℕ) → owns s t l ≡ owns r t l) (values : (p : ℕ) → IsAtCell r t p → value_at s p ≡ value_at r p) where
  cells_before : (writes : Bool) (o : Option ℕ) → next_access r t ≡ option_map (of_cell writes) o → AccessSame r s (option_map (of_cell writes) o)
  cells_before writes o access = cell_still r s writes o (λ p is. values p (writes, access ∙ ap (λ (x : Option ℕ). option_map (of_cell writes) x) is))

  looks_before : (instr : Instr) → StandsAside r.component instr → next_access r t ≡ instr_access r.component f instr → LooksSame r s t f instr
  looks_before (Set to v) is access = tt
  looks_before (Compute by to x y) is access = tt
  looks_before (Load to w i) is access = cells_before false (cell_at r f w i) access
  looks_before (Store w i v) is access = cells_before true (cell_at r f w i) access
  looks_before (Cas to w i x y) is access = cells_before true (cell_at r f w i) access
  looks_before (Lock l) is access = absurd (cc)
  looks_before (Unlock l) is access = own l
  looks_before (Await w i v) is access = absurd (cc)
  looks_before (AwaitNot w i v) is access = absurd (cc)
  looks_before (Pick to count) is access = absurd (cc)
  looks_before (Jump target) is access = tt
  looks_before (JumpIfZero v target) is access = tt
  looks_before (Return v) is access = tt

-- and what is given back is its own before it too
gives_before : (s mid : State) (t : ℕ) (w : Shared) → ((l : ℕ) → owns mid t l ≡ owns s t l) → GivesBack mid t w → GivesBack s t w
gives_before s mid t Nothing own gives = tt
gives_before s mid t (Cell p n) own gives = tt
gives_before s mid t (Owner l owner) own gives = (owner_is (owner_of s l) t (sym (own l) ∙ owner_owns (owner_of mid l) t gives.0), gives.1)

goes_aside : (s mid end : State) (x m : Move) (other event : Option Event) → IsOwned s → IsAside s m.thread → (x.thread ≡ m.thread → ⊥) → Step s x mid other → Step mid m end event → Aside s m x end event other
goes_aside s mid end x m other event owned is differ one two =
    let t = m.thread in
    let u = x.thread in
    let apart : t ≡ u → ⊥ = λ e. differ (sym e) in
    let a = does_near mid end m event two in
    let b = does_near s mid x other one in
    let moved = step_moved s x mid other one in
    let stays : slice_get mid.threads t ≡ slice_get s.threads t = other_stands s x mid other t differ one in
    let there : IsAside mid t = stays_aside s x mid other t differ one is in
    let others = others_aside s t u apart owned is in
    let access : next_access mid t ≡ next_access s t = rw (stays, moved.component) refl in
    let values : (p : ℕ) → IsAtCell mid t p → value_at s p ≡ value_at mid p = λ p mine. sym (ap (λ (z : State). value_at z p) b.is ∙ value_still s b.wrote u p b.now b.within (others p (mine.0, sym access ∙ mine.1))) in
    let own : (l : ℕ) → owns mid t l ≡ owns s t l = λ l. ap (λ (z : State). owns z t l) b.is ∙ owns_still s b.wrote u t l b.now differ b.hands in
    let back : IsNear t mid s = record {
      component = sym moved.component;
      matrix_is = sym moved.matrix;
      stands = sym stays;
      looks = λ k f instr stands at. looks_before s mid t f (λ l. sym (own l)) values instr (aside_instr mid t k f instr stands at there) (access_at mid t k f instr stands at);
    } in
    let here = a.there s back in
    let now = written s a.wrote t a.now in
    let within : Within a.wrote (next_access s t) = subst (Within a.wrote) access a.within in
    let gives : GivesBack s t a.wrote = gives_before s mid t a.wrote own (a.gives there) in
    let near : IsNear u s now = record {
      component = shared_component s a.wrote;
      matrix_is = shared_matrix s a.wrote;
      stands = written_other s a.wrote t u a.now apart;
      looks = λ k f instr stands at. looks_still s a.wrote t u a.now apart within gives others f instr (access_at s u k f instr stands at);
    } in
    let on = b.there now near in
    let same : written now b.wrote u b.now ≡ end =
    both_written s a.wrote b.wrote t u a.now b.now apart (back_apart s a.wrote b.wrote t u apart others within b.within gives b.hands)
    ∙ (ap (λ (z : State). written z a.wrote t a.now) (sym b.is) ∙ sym a.is) in
    record {
      now = now;
      step = here;
      after = subst (λ z. Step now x z other) same on;
      unordered = unordered_by t u event other apart (step_event mid end m event two) (step_opens mid end m event (busy mid t there) two) (step_event s mid x other one);
    }

pub front_own : (s : State) (t : ℕ) (x : Move) (w : List Move) (end next : State) (e : Option Event) (rest h : List Event) → x.thread ≡ t → Step s x next e → Leads next w end rest → h ≡ with_event e rest → InFront s t (length (x ∷ w)) end h
front_own s t x w end next e rest h is step leads joined = record {
  m = x;
  is = is;
  now = next;
  event = e;
  step = step;
  rest = w;
  long = omega arith;
  behind = rest;
  leads = leads;
  reordered = subst (AreReordered (with_event e rest)) (sym joined) (reordered_same (with_event e rest));
}

pub front_other : (s : State) (t : ℕ) (x : Move) (w : List Move) (end next : State) (e : Option Event) (rest h : List Event) → IsOwned s → (x.thread ≡ t → ⊥) → IsAside s t → Step s x next e → h ≡ with_event e rest → InFront next t (length w) end rest → InFront s t (length (x ∷ w)) end h
front_other s t x w end next e rest h owned other unseen step joined r =
    let here : IsAside s r.m.thread = subst (IsAside s) (sym r.is) unseen in
    let a = goes_aside s next r.now x r.m e r.event owned here (λ same. other (same ∙ r.is)) step r.step in
    let long = r.long in
    let turned = events_turned r.event e r.behind a.unordered in
    let on : AreReordered (with_event e (with_event r.event r.behind)) h = subst (AreReordered (with_event e (with_event r.event r.behind))) (sym joined) (event_before e (with_event r.event r.behind) rest r.reordered) in
    record {
      m = r.m;
      is = r.is;
      now = a.now;
      event = r.event;
      step = a.step;
      rest = x ∷ r.rest;
      long = omega (arith, long);
      behind = with_event e r.behind;
      leads = (r.now, e, r.behind, a.after, r.leads, refl);
      reordered = reordered_both (with_event r.event (with_event e r.behind)) (with_event e (with_event r.event r.behind)) h turned on;
    }

-- What a move does depends on where its thread stands, and on what its instruction looks at: a `lock` at whether the lock is free, and an `unlock` at whether its thread owns it.
use Rattle.std.proofs.Common.{arith, ◌≡◌, ℕ, zero, suc, ◌==◌, ◌⊎◌, Bool, true, false, List, [], ◌∷◌, MatchBool, Option, None, Some, is_some, slice_get, slice_set, get_or, refl, sym, ◌∙◌, ap, subst, inl, inr}
use Rattle.std.specs.Option.{option_map, option_map_or}
use Rattle.std.proofs.lemmas.Bool.{cases_eq, eq-eqb, ne_eqb}
use Rattle.std.proofs.lemmas.Bool.Decides.{nat_tests}
use Rattle.std.proofs.lemmas.List.{get_or-set_other, set-set}
use Rattle.std.proofs.lemmas.Option.{same_Some}
use Rattle.lu_component.specs.declared.instr.Instr.{Instr}
use Rattle.lu_component.specs.declared.instr.Instr.TheVariants.{Set, Compute, Load, Store, Cas, Lock, Unlock, Await, AwaitNot, Pick, Jump, JumpIfZero, Return}
use Rattle.lu_test.specs.declared.schedule.Move.{Move}
use Rattle.lu_machine.specs.declared.event.Event.{Event}
use Rattle.lu_machine.specs.declared.event.Outcome.TheVariants.{Trap}
use Rattle.lu_machine.specs.declared.thread.Activity.{Activity}
use Rattle.lu_machine.specs.declared.thread.Activity.TheVariants.{Idle, Open}
use Rattle.lu_machine.specs.declared.thread.Frame.{Frame}
use Rattle.lu_machine.specs.declared.thread.Thread.{Thread}
use Rattle.lu_machine.specs.declared.undo.Shared.{Shared}
use Rattle.lu_machine.specs.declared.undo.Shared.TheVariants.{Nothing, Cell, Owner}
use Rattle.lu_machine.specs.Changes.{at_work, idle}
use Rattle.lu_machine.specs.Effects.{Effect, onward}
use Rattle.lu_machine.specs.Effects.Effect.{Ends}
use Rattle.lu_machine.specs.States.{State, cell_at, instr_at, owner_of, value_at, with_owner, with_standing}
use Rattle.lu_machine.specs.Steps.{Carries, ByActivity, OneStep, RunsOn, Step, more_local, opened, owns, thread_after}
use Rattle.lu_machine.specs.Undoes.{with_shared}
use Rattle.lu_machine.proofs.Running.{ran}
use Rattle.lu_horizon.proofs.OwnLaws.{one_step_by}
use Rattle.lu_orders.specs.Solo.{IsSame}
use Rattle.lu_orders.proofs.Frames.{frame_runs, more_alike}
use Rattle.lu_tree.specs.Accesses.{conflict, instr_access, next_access, of_cell, of_lock}
use Rattle.lu_tree.proofs.Accessing.{AccessSame, Within, access_at, acting, set_both, written, written_stands}
use Rattle.lu_graph.specs.First.{IsAside, StandsAside}

-- ---- one instruction

-- what an instruction of thread t's operation f looks at is the same in r as in s
abbrev pub LooksSame : State → State → ℕ → Frame → Instr → Type 0
LooksSame s r t f (Lock l) = owner_of s l ≡ None → owner_of r l ≡ None
LooksSame s r t f (Unlock l) = owns r t l ≡ owns s t l
LooksSame s r t f instr = AccessSame s r (instr_access s.component f instr)

-- where an owner is written, thread t takes a lock that is free, or gives back one that it owns
abbrev pub Hands : State → ℕ → Shared → Type 0
Hands s t Nothing = Unit {0}
Hands s t (Cell p n) = Unit {0}
Hands s t (Owner l owner) = ((owner_of s l ≡ None) × (owner ≡ Some t)) ⊎ ((owner_of s l ≡ Some t) × (owner ≡ None))

-- where an owner is written, thread t gives back a lock that it owns
abbrev pub GivesBack : State → ℕ → Shared → Type 0
GivesBack s t Nothing = Unit {0}
GivesBack s t (Cell p n) = Unit {0}
GivesBack s t (Owner l owner) = (owner_of s l ≡ Some t) × (owner ≡ None)

-- what an instruction writes, and that it does the same wherever what it looks at is the same
record Carried (s : State) (m : Move) (f : Frame) (instr : Instr) (new : State) (e : Effect) : Type 0 where
  pub wrote : Shared
  pub is : new ≡ with_shared s wrote
  pub within : Within wrote (instr_access s.component f instr)
  pub hands : Hands s m.thread wrote
  pub gives : StandsAside s.component instr → GivesBack s m.thread wrote
  pub there : (r : State) → r.component ≡ s.component → LooksSame s r m.thread f instr → Carries r m f instr (with_shared r wrote) e

pub hands_back : (s : State) (t : ℕ) (w : Shared) → GivesBack s t w → Hands s t w
hands_back s t Nothing gives = tt
hands_back s t (Cell p n) gives = tt
hands_back s t (Owner l owner) gives = inr gives

pub owner_is : (o : Option ℕ) (t : ℕ) → option_map_or (λ owner. owner == t) o false ≡ true → o ≡ Some t
owner_is None t is = absurd (cc)
owner_is (Some u) t is = (let same : u ≡ t = grind (arith, nat_tests) in ap (λ (v : ℕ). Some v) same)

pub owner_owns : (o : Option ℕ) (t : ℕ) → o ≡ Some t → option_map_or (λ owner. owner == t) o false ≡ true
owner_owns o t is = rw is (eq-eqb t t refl)

unlock_writes : (s new : State) (f : Frame) (t l : ℕ) (e : Effect) (b : Bool) → owns s t l ≡ b → MatchBool b ((new ≡ with_owner s l None) × (e ≡ onward f)) ((new ≡ s) × (e ≡ Ends Trap)) → (wrote : Shared) × (new ≡ with_shared s wrote) × Within wrote (Some (of_lock l)) × GivesBack s t wrote × ((r : State) → owns r t l ≡ owns s t l → MatchBool (owns r t l) ((with_shared r wrote ≡ with_owner r l None) × (e ≡ onward f)) ((with_shared r wrote ≡ r) × (e ≡ Ends Trap)))
unlock_writes s new f t l e true is h = (Owner l None, h.0, refl, (owner_is (owner_of s l) t is, refl), λ r same. rw (same ∙ is) (refl, h.1))
unlock_writes s new f t l e false is h = (Nothing, h.0, tt, tt, λ r same. rw (same ∙ is) (refl, h.1))

-- an access of a cell is none of a lock
pub no_lock : (writes : Bool) (o : Option ℕ) (l : ℕ) → option_map (of_cell writes) o ≡ Some (of_lock l) → ⊥
no_lock writes None l is = cc
no_lock writes (Some p) l is =
    let one : is_some (conflict (Some (of_lock l)) (Some (of_lock l))) ≡ true = rw (eq-eqb l l refl) refl in
    let none : false ≡ is_some (conflict (Some (of_lock l)) (Some (of_lock l))) = ap (λ x. is_some (conflict (Some (of_lock l)) x)) is in
    differs (none ∙ one)
  where
    differs : false ≡ true → ⊥
    differs e = cc

none_lock : (l : ℕ) → None ≡ Some (of_lock l) → ⊥
none_lock l is = cc

-- one that accesses no lock gives none back
no_gives : (s : State) (t : ℕ) (f : Frame) (instr : Instr) (w : Shared) → ((l : ℕ) → instr_access s.component f instr ≡ Some (of_lock l) → ⊥) → Within w (instr_access s.component f instr) → GivesBack s t w
no_gives s t f instr Nothing not within = tt
no_gives s t f instr (Cell p n) not within = tt
no_gives s t f instr (Owner l owner) not within = absurd (not l within)

-- one that is neither `lock` nor `unlock`
plain : (s : State) (m : Move) (f : Frame) (instr : Instr) (new : State) (e : Effect) → Carries s m f instr new e → ((l : ℕ) → instr_access s.component f instr ≡ Some (of_lock l) → ⊥) → ((r : State) → LooksSame s r m.thread f instr → AccessSame s r (instr_access s.component f instr)) → Carried s m f instr new e
plain s m f instr new e h not looks =
    let a = acting s m f instr new e h in
    record {
      wrote = a.wrote;
      is = a.is;
      within = a.within;
      hands = hands_back s m.thread a.wrote (no_gives s m.thread f instr a.wrote not a.within);
      gives = λ aside. no_gives s m.thread f instr a.wrote not a.within;
      there = λ r c same. (a.there r c (looks r same)).0;
    }

carried : (s : State) (m : Move) (f : Frame) (instr : Instr) (new : State) (e : Effect) → Carries s m f instr new e → Carried s m f instr new e
carried s m f (Set to v) new e h = plain s m f (Set to v) new e h none_lock (λ r same. same)
carried s m f (Compute by to x y) new e h = plain s m f (Compute by to x y) new e h none_lock (λ r same. same)
carried s m f (Load to w i) new e h = plain s m f (Load to w i) new e h (λ l is. no_lock false (cell_at s f w i) l is) (λ r same. same)
carried s m f (Store w i v) new e h = plain s m f (Store w i v) new e h (λ l is. no_lock true (cell_at s f w i) l is) (λ r same. same)
carried s m f (Cas to w i x y) new e h = plain s m f (Cas to w i x y) new e h (λ l is. no_lock true (cell_at s f w i) l is) (λ r same. same)
carried s m f (Lock l) new e h = record {
  wrote = Owner l (Some m.thread);
  is = h.1;
  within = refl;
  hands = inl (h.0, refl);
  gives = λ aside. absurd (cc);
  there = λ r c same. (same h.0, refl, h.2);
}
carried s m f (Unlock l) new e h =
    let a = unlock_writes s new f m.thread l e (owns s m.thread l) refl h in
    record { wrote = a.0; is = a.1; within = a.2; hands = hands_back s m.thread a.0 a.3; gives = λ aside. a.3; there = λ r c same. a.4 r same }
carried s m f (Await w i v) new e h = plain s m f (Await w i v) new e h (λ l is. no_lock false (cell_at s f w i) l is) (λ r same. same)
carried s m f (AwaitNot w i v) new e h = plain s m f (AwaitNot w i v) new e h (λ l is. no_lock false (cell_at s f w i) l is) (λ r same. same)
carried s m f (Pick to count) new e h = plain s m f (Pick to count) new e h none_lock (λ r same. same)
carried s m f (Jump target) new e h = plain s m f (Jump target) new e h none_lock (λ r same. same)
carried s m f (JumpIfZero v target) new e h = plain s m f (JumpIfZero v target) new e h none_lock (λ r same. same)
carried s m f (Return v) new e h = plain s m f (Return v) new e h none_lock (λ r same. same)

-- ---- one move

-- r is the same as s for the next move of thread t: it stands there as in s, and what it looks at is the same
pub record IsNear (t : ℕ) (s r : State) : Type 0 where
  pub component : r.component ≡ s.component
  pub matrix_is : r.matrix ≡ s.matrix
  pub stands : slice_get r.threads t ≡ slice_get s.threads t
  pub looks : (k : ℕ) (f : Frame) (instr : Instr) → slice_get s.threads t ≡ Some (at_work k f) → instr_at s.component f.op f.place ≡ Some instr → LooksSame s r t f instr

-- a thread is at one instruction
pub aside_instr : (s : State) (t k : ℕ) (f : Frame) (instr : Instr) → slice_get s.threads t ≡ Some (at_work k f) → instr_at s.component f.op f.place ≡ Some instr → IsAside s t → StandsAside s.component instr
aside_instr s t k f instr stands at is =
    let same : at_work is.done is.frame ≡ at_work k f = same_Some (at_work is.done is.frame) (at_work k f) (sym is.stands ∙ stands) in
    let here : Open is.frame ≡ Open f = ap (λ (x : Thread). x.activity) same in
    let frame : is.frame ≡ f = ap frame_in here in
    let one : is.instr ≡ instr = same_Some is.instr instr (sym is.at ∙ (ap (λ (g : Frame). instr_at s.component g.op g.place) frame ∙ at)) in
    subst (StandsAside s.component) one is.aside
  where
    frame_in : Activity → Frame
    frame_in Idle = is.frame
    frame_in (Open g) = g

-- what one call or instruction writes, and that it does the same in each state that is near
pub record Once (s : State) (m : Move) (new : State) (event : Option Event) : Type 0 where
  pub wrote : Shared
  pub within : Within wrote (next_access s m.thread)
  pub hands : Hands s m.thread wrote
  pub gives : IsAside s m.thread → GivesBack s m.thread wrote
  pub now : Thread
  pub is : new ≡ written s wrote m.thread now
  pub there : (r : State) → IsNear m.thread s r → OneStep r m (written r wrote m.thread now) event

pub once : (s new : State) (m : Move) (k : ℕ) (activity : Activity) (event : Option Event) → slice_get s.threads m.thread ≡ Some (record { done = k; activity = activity }) → ByActivity s m k activity new event → Once s m new event
once s new m k Idle event was h = record {
  wrote = Nothing;
  within = tt;
  hands = tt;
  gives = λ aside. tt;
  now = at_work k (opened h.0);
  is = h.3;
  there = λ r near.
      (let stands : slice_get r.threads m.thread ≡ Some (idle k) = near.stands ∙ was in
      (idle k, stands, (h.0, rw near.matrix_is h.1, h.2, refl, h.4)));
}
once s new m k (Open f) event was h =
    let t = m.thread in
    let a = carried s m f h.0 h.1 h.2 h.5 in
    let now = thread_after k h.2 in
    record {
      wrote = a.wrote;
      within = subst (Within a.wrote) (sym (access_at s t k f h.0 was h.3)) a.within;
      hands = a.hands;
      gives = λ aside. a.gives (aside_instr s t k f h.0 was h.3 aside);
      now = now;
      is = h.6 ∙ ap (λ (x : State). with_standing x t now) a.is;
      there = λ r near.
          (let stands : slice_get r.threads t ≡ Some (at_work k f) = near.stands ∙ was in
          let here : instr_at r.component f.op f.place ≡ Some h.0 = rw near.component h.3 in
          let on = a.there r near.component (near.looks k f h.0 was h.3) in
          (at_work k f, stands, (h.0, with_shared r a.wrote, h.2, here, h.4, on, refl, h.7)));
    }

-- what a move writes, and that it does the same in each state that is near
pub record DoesNear (s : State) (m : Move) (new : State) (event : Option Event) : Type 0 where
  pub wrote : Shared
  pub within : Within wrote (next_access s m.thread)
  pub hands : Hands s m.thread wrote
  pub gives : IsAside s m.thread → GivesBack s m.thread wrote
  pub now : Thread
  pub is : new ≡ written s wrote m.thread now
  pub there : (r : State) → IsNear m.thread s r → Step r m (written r wrote m.thread now) event

pub shared_component : (s : State) (w : Shared) → (with_shared s w).component ≡ s.component
shared_component s Nothing = refl
shared_component s (Cell p n) = refl
shared_component s (Owner l owner) = refl

pub shared_matrix : (s : State) (w : Shared) → (with_shared s w).matrix ≡ s.matrix
shared_matrix s Nothing = refl
shared_matrix s (Cell p n) = refl
shared_matrix s (Owner l owner) = refl

written_again : (s : State) (w : Shared) (t : ℕ) (x y : Thread) → with_standing (written s w t x) t y ≡ written s w t y
written_again s w t x y = ap (λ (threads : List Thread). let z : State = record (with_shared s w) { threads = threads } in z) (set-set (with_shared s w).threads t x y)

-- two states in which a thread stands so are the same for it, as far as it runs on
same_for : (s r : State) (w : Shared) (t : ℕ) (was now : Thread) → slice_get s.threads t ≡ Some was → IsNear t s r → IsSame false t (written s w t now) (written r w t now)
same_for s r w t was now stands near = record {
  component = shared_component r w ∙ (near.component ∙ sym (shared_component s w));
  matrix_is = shared_matrix r w ∙ (near.matrix_is ∙ sym (shared_matrix s w));
  stands = written_stands r w t was now (near.stands ∙ stands) ∙ sym (written_stands s w t was now stands);
  shared = λ is. absurd (cc);
}

near_same : (s r : State) (t : ℕ) → IsNear t s r → IsSame false t s r
near_same s r t near = record { component = near.component; matrix_is = near.matrix_is; stands = near.stands; shared = λ is. absurd (cc) }

pub does_near : (s new : State) (m : Move) (event : Option Event) → Step s m new event → DoesNear s m new event
does_near s new m event step =
    let t = m.thread in
    let mid = step.0 in
    let thread : Thread = step.1.0 in
    let by : ByActivity s m thread.done thread.activity mid event = one_step_by s m mid event thread step.1.1 step.1 in
    let first = once s mid m thread.done thread.activity event step.1.1 by in
    let n = more_local s t in
    let start = written s first.wrote t first.now in
    let runs : RunsOn n start t new = subst (λ x. RunsOn n x t new) first.is step.2 in
    let here = written_stands s first.wrote t thread first.now step.1.1 in
    let last = ran n start t new first.now here runs in
    record {
      wrote = first.wrote;
      within = first.within;
      hands = first.hands;
      gives = first.gives;
      now = last.now;
      is = last.moved ∙ written_again s first.wrote t first.now last.now;
      there = λ r near.
          (let one = first.there r near in
          let begin = written r first.wrote t first.now in
          let stands = written_stands r first.wrote t thread first.now (near.stands ∙ step.1.1) in
          let same = same_for s r first.wrote t thread first.now step.1.1 near in
          let on = frame_runs false t n start new begin runs same in
          let end = ran n begin t on.there first.now stands on.runs in
          let at_end = written_stands begin Nothing t first.now end.now stands in
          let at_last = written_stands start Nothing t first.now last.now here in
          let now : end.now ≡ last.now = same_Some end.now last.now (sym at_end ∙ (ap (λ (x : State). slice_get x.threads t) (sym end.moved) ∙ (on.same.stands ∙ (ap (λ (x : State). slice_get x.threads t) last.moved ∙ at_last)))) in
          let is : on.there ≡ written r first.wrote t last.now = end.moved ∙ (written_again r first.wrote t first.now end.now ∙ ap (λ x. written r first.wrote t x) now) in
          let more : more_local r t ≡ n = more_alike false t s r (near_same s r t near) in
          let runs_on : RunsOn (more_local r t) begin t (written r first.wrote t last.now) = rw (more, ← is) on.runs in
          (begin, one, runs_on));
    }

-- ---- what it leaves as it was

either_set : (xs : List (Option ℕ)) (i : ℕ) (o : Option ℕ) → (get_or (slice_set xs i o) i None ≡ o) ⊎ (get_or (slice_set xs i o) i None ≡ get_or xs i None)
either_set [] i o = inr refl
either_set (x ∷ xs) zero o = inl refl
either_set (x ∷ xs) (suc i) o = either_set xs i o

still_none : (xs : List (Option ℕ)) (i j : ℕ) → get_or xs j None ≡ None → get_or (slice_set xs i None) j None ≡ None
still_none [] i j is = is
still_none (x ∷ xs) zero zero is = refl
still_none (x ∷ xs) zero (suc j) is = is
still_none (x ∷ xs) (suc i) zero is = is
still_none (x ∷ xs) (suc i) (suc j) is = still_none xs i j is

none_owns : (o : Option ℕ) (u : ℕ) → o ≡ None → option_map_or (λ owner. owner == u) o false ≡ false
none_owns o u is = rw is refl

other_owns : (o : Option ℕ) (t u : ℕ) → (t ≡ u → ⊥) → o ≡ Some t → option_map_or (λ owner. owner == u) o false ≡ false
other_owns o t u differ is = rw is (ne_eqb t u differ)

-- the other thread owns neither what was there, nor what is written
never_owns : (t u : ℕ) (old o : Option ℕ) → (t ≡ u → ⊥) → ((old ≡ None) × (o ≡ Some t)) ⊎ ((old ≡ Some t) × (o ≡ None)) → (option_map_or (λ owner. owner == u) old false ≡ false) × (option_map_or (λ owner. owner == u) o false ≡ false)
never_owns t u old o differ (inl (free, takes)) = (none_owns old u free, other_owns o t u differ takes)
never_owns t u old o differ (inr (owned, gives)) = (other_owns old t u differ owned, none_owns o u gives)

-- another thread owns what it owned
pub owns_still : (s : State) (w : Shared) (t u l : ℕ) (now : Thread) → (t ≡ u → ⊥) → Hands s t w → owns (written s w t now) u l ≡ owns s u l
owns_still s Nothing t u l now differ hands = refl
owns_still s (Cell p n) t u l now differ hands = refl
owns_still s (Owner k o) t u l now differ hands = elim (cases_eq k l) as (λ _. owns (written s (Owner k o) t now) u l ≡ owns s u l) [
  | inl same ↦ subst (λ (l : ℕ). owns (written s (Owner k o) t now) u l ≡ owns s u l) same
      (let never = never_owns t u (owner_of s k) o differ hands in
      elim (either_set s.locks k o) as (λ _. owns (written s (Owner k o) t now) u k ≡ owns s u k) [
        | inl new ↦ ap (λ (x : Option ℕ). option_map_or (λ owner. owner == u) x false) new ∙ (never.1 ∙ sym never.0)
        | inr old ↦ ap (λ (x : Option ℕ). option_map_or (λ owner. owner == u) x false) old
      ])
  | inr other ↦ ap (λ (x : Option ℕ). option_map_or (λ owner. owner == u) x false) (get_or-set_other s.locks k l o None (λ e. other (sym e)))
]

-- where a lock is given back, one that is free stays free
pub free_still : (s : State) (w : Shared) (t l : ℕ) (now : Thread) → GivesBack s t w → owner_of s l ≡ None → owner_of (written s w t now) l ≡ None
free_still s Nothing t l now gives free = free
free_still s (Cell p n) t l now gives free = free
free_still s (Owner k o) t l now gives free = rw gives.1 (still_none s.locks k l free)

-- the next move of thread t accesses the cell at p
abbrev pub IsAtCell : State → ℕ → ℕ → Type 0
IsAtCell s t p = (writes : Bool) × (next_access s t ≡ Some (of_cell writes p))

-- those of two threads access no cell both
abbrev pub AreAtOthers : State → ℕ → ℕ → Type 0
AreAtOthers s t u = (p : ℕ) → IsAtCell s t p → IsAtCell s u p → ⊥

-- a cell that is not accessed keeps its value
pub value_still : (s : State) (w : Shared) (t p : ℕ) (now : Thread) → Within w (next_access s t) → (IsAtCell s t p → ⊥) → value_at (written s w t now) p ≡ value_at s p
value_still s Nothing t p now within other = refl
value_still s (Cell q n) t p now within other = get_or-set_other s.cells q p n 0 (λ same. other (true, within ∙ ap (λ (x : ℕ). Some (of_cell true x)) (sym same)))
value_still s (Owner k o) t p now within other = refl

-- ---- both

-- not both of one cell, nor both of one lock
abbrev pub AreApart : Shared → Shared → Type 0
AreApart (Cell p n) (Cell q m) = p ≡ q → ⊥
AreApart (Owner k o) (Owner l q) = k ≡ l → ⊥
AreApart w x = Unit {0}

-- what is given back is none that another thread takes or gives back
pub back_apart : (s : State) (w x : Shared) (t u : ℕ) → (t ≡ u → ⊥) → AreAtOthers s t u → Within w (next_access s t) → Within x (next_access s u) → GivesBack s t w → Hands s u x → AreApart w x
back_apart s Nothing x t u differ others one two gives hands = tt
back_apart s (Cell p n) Nothing t u differ others one two gives hands = tt
back_apart s (Cell p n) (Cell q m) t u differ others one two gives hands = λ same. others p (true, one) (true, two ∙ ap (λ (x : ℕ). Some (of_cell true x)) (sym same))
back_apart s (Cell p n) (Owner l q) t u differ others one two gives hands = tt
back_apart s (Owner k o) Nothing t u differ others one two gives hands = tt
back_apart s (Owner k o) (Cell q m) t u differ others one two gives hands = tt
back_apart s (Owner k o) (Owner l q) t u differ others one two gives hands = λ same.
    (let mine : owner_of s l ≡ Some t = ap (owner_of s) (sym same) ∙ gives.0 in
    elim hands as (λ _. ⊥) [
      | inl takes ↦ (let both : None ≡ Some t = sym takes.0 ∙ mine in cc)
      | inr back ↦ differ (same_Some t u (sym mine ∙ back.0))
    ])

-- what two moves write that are apart may be written in either order
pub both_written : (s : State) (w x : Shared) (t u : ℕ) (now after : Thread) → (t ≡ u → ⊥) → AreApart w x → written (written s w t now) x u after ≡ written (written s x u after) w t now
both_written s Nothing Nothing t u now after differ apart = rw (set_both s.threads t u now after differ) refl
both_written s Nothing (Cell q m) t u now after differ apart = rw (set_both s.threads t u now after differ) refl
both_written s Nothing (Owner l q) t u now after differ apart = rw (set_both s.threads t u now after differ) refl
both_written s (Cell p n) Nothing t u now after differ apart = rw (set_both s.threads t u now after differ) refl
both_written s (Cell p n) (Cell q m) t u now after differ apart = rw (set_both s.threads t u now after differ, set_both s.cells p q n m apart) refl
both_written s (Cell p n) (Owner l q) t u now after differ apart = rw (set_both s.threads t u now after differ) refl
both_written s (Owner k o) Nothing t u now after differ apart = rw (set_both s.threads t u now after differ) refl
both_written s (Owner k o) (Cell q m) t u now after differ apart = rw (set_both s.threads t u now after differ) refl
both_written s (Owner k o) (Owner l q) t u now after differ apart = rw (set_both s.threads t u now after differ, set_both s.locks k l o q apart) refl

-- ---- what another thread looks at

pub cell_still : (s r : State) (writes : Bool) (o : Option ℕ) → ((p : ℕ) → o ≡ Some p → value_at r p ≡ value_at s p) → AccessSame s r (option_map (of_cell writes) o)
cell_still s r writes None same = tt
cell_still s r writes (Some p) same = same p refl

-- after the move of thread t what another thread u looks at is the same, where t takes no lock, and they access no cell both
module _ (s : State) (w : Shared) (t u : ℕ) (now : Thread) (differ : t ≡ u → ⊥) (within : Within w (next_access s t)) (gives : GivesBack s t w) (others : AreAtOthers s t u) where
  cells_still : (writes : Bool) (o : Option ℕ) → next_access s u ≡ option_map (of_cell writes) o → AccessSame s (written s w t now) (option_map (of_cell writes) o)
  cells_still writes o access = cell_still s (written s w t now) writes o (λ p is. value_still s w t p now within (λ mine. others p mine (writes, access ∙ ap (λ (x : Option ℕ). option_map (of_cell writes) x) is)))

  pub looks_still : (f : Frame) (instr : Instr) → next_access s u ≡ instr_access s.component f instr → LooksSame s (written s w t now) u f instr
  looks_still f (Set to v) access = tt
  looks_still f (Compute by to x y) access = tt
  looks_still f (Load to w i) access = cells_still false (cell_at s f w i) access
  looks_still f (Store w i v) access = cells_still true (cell_at s f w i) access
  looks_still f (Cas to w i x y) access = cells_still true (cell_at s f w i) access
  looks_still f (Lock l) access = free_still s w t l now gives
  looks_still f (Unlock l) access = owns_still s w t u l now differ (hands_back s t w gives)
  looks_still f (Await w i v) access = cells_still false (cell_at s f w i) access
  looks_still f (AwaitNot w i v) access = cells_still false (cell_at s f w i) access
  looks_still f (Pick to count) access = tt
  looks_still f (Jump target) access = tt
  looks_still f (JumpIfZero v target) access = tt
  looks_still f (Return v) access = tt

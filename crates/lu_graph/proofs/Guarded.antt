-- A thread in a critical section owns the lock: so no two threads are at accesses of an array that is guarded.
use Rattle.std.proofs.Common.{arith, ◌≡◌, ℕ, zero, suc, ◌+◌, ◌<◌, ◌==◌, not, if◌then◌else◌, nat_lt, Bool, true, false, List, [], ◌∷◌, MatchBool, MatchOption, Option, None, Some, length, replicate, slice_get, get_or, take, refl, sym, ◌∙◌, ap, subst, inl, inr}
use Rattle.std.specs.Option.{option_and_then}
use Rattle.std.proofs.lemmas.Bool.{and_parts, cases_eq, cases_lt, ltb-true, or_cases}
use Rattle.std.proofs.lemmas.Bool.Decides.{nat_tests}
use Rattle.std.proofs.lemmas.List.{get_or-set_other, get_or-set_same, length-replicate, length-set}
use Rattle.std.proofs.lemmas.List.Sums.{sum_by-cons}
use Rattle.std.proofs.lemmas.Option.{same_Some, slice_get_within}
use Rattle.lu_component.specs.Component.{Component}
use Rattle.lu_component.specs.declared.component.Array.{Array}
use Rattle.lu_component.specs.declared.instr.Instr.{Instr}
use Rattle.lu_component.specs.declared.instr.Instr.TheVariants.{Set, Compute, Load, Store, Cas, Lock, Unlock, Await, AwaitNot, Pick, Jump, JumpIfZero, Return}
use Rattle.lu_test.specs.Matrix.{Matrix, thread_count}
use Rattle.lu_test.specs.declared.matrix.Call.{Call}
use Rattle.lu_test.specs.declared.schedule.Move.{Move}
use Rattle.lu_machine.specs.declared.event.Event.{Event}
use Rattle.lu_machine.specs.declared.event.Outcome.TheVariants.{Trap}
use Rattle.lu_machine.specs.declared.thread.Activity.{Activity}
use Rattle.lu_machine.specs.declared.thread.Activity.TheVariants.{Idle, Open}
use Rattle.lu_machine.specs.declared.thread.Frame.{Frame}
use Rattle.lu_machine.specs.declared.thread.Thread.{Thread}
use Rattle.lu_machine.specs.declared.undo.Shared.{Shared}
use Rattle.lu_machine.specs.declared.undo.Shared.TheVariants.{Nothing, Cell, Owner}
use Rattle.lu_machine.specs.Changes.{at_work, idle}
use Rattle.lu_machine.specs.Effects.{Effect, onward, onward_with, value_of}
use Rattle.lu_machine.specs.Effects.Effect.{Ends, GoesOn}
use Rattle.lu_machine.specs.Runs.{Leads}
use Rattle.lu_machine.specs.Starts.{IsStart, MakesAll, first_move}
use Rattle.lu_machine.specs.States.{State, cell_at, cell_of, first_cell, instr_at, owner_of, value_at, with_cell, with_owner}
use Rattle.lu_machine.specs.Steps.{Carries, ByActivity, OneStep, RunsOn, Step, is_at_local, more_local, opened, owns, thread_after}
use Rattle.lu_machine.proofs.Keeping.{carries_alike, step_moved}
use Rattle.lu_horizon.specs.Dead.{GoesTo}
use Rattle.lu_horizon.proofs.OwnLaws.{Follows, MayGoTo, carries_follows, get_set_same, one_step_by}
use Rattle.lu_tree.proofs.Accessing.{written, written_other}
use Rattle.lu_graph.specs.Guards.{AreCritical, GuardedIsOwned, IsGuarded, array_of, is_inside_after}
use Rattle.lu_graph.proofs.Apart.{does_near, once, owner_is, owner_owns, owns_still, shared_component}

-- each thread owns the locks in whose critical sections it is, and there are as many locks as the component has
pub record IsOwned (s : State) : Type 0 where
  pub many : length s.locks ≡ length s.component.locks
  pub owned : (l : ℕ) (inside : ℕ → ℕ → Bool) → l < length s.component.locks → AreCritical s.component l inside → (t k : ℕ) (f : Frame) → slice_get s.threads t ≡ Some (at_work k f) → inside f.op f.place ≡ true → owner_of s l ≡ Some t

-- ---- one instruction

same_owner : (s mid : State) (t l : ℕ) → mid.locks ≡ s.locks → owner_of s l ≡ Some t → owner_of mid l ≡ Some t
same_owner s mid t l same own = ap (λ (x : List (Option ℕ)). get_or x l None) same ∙ own

locks_of : (s mid : State) → mid ≡ s → mid.locks ≡ s.locks
locks_of s mid is = ap (λ (x : State). x.locks) is

store_locks : (s mid : State) (n : ℕ) (o : Option ℕ) (x y e : Effect) → MatchOption o ((mid ≡ s) × (e ≡ x)) (λ p. (mid ≡ with_cell s p n) × (e ≡ y)) → mid.locks ≡ s.locks
store_locks s mid n None x y e h = locks_of s mid h.0
store_locks s mid n (Some p) x y e h = ap (λ (x : State). x.locks) h.0

swap_locks : (s mid : State) (p n : ℕ) (b : Bool) (x y e : Effect) → MatchBool b ((mid ≡ with_cell s p n) × (e ≡ x)) ((mid ≡ s) × (e ≡ y)) → mid.locks ≡ s.locks
swap_locks s mid p n true x y e h = ap (λ (x : State). x.locks) h.0
swap_locks s mid p n false x y e h = locks_of s mid h.0

cas_locks : (s mid : State) (f : Frame) (to v n : ℕ) (o : Option ℕ) (e : Effect) → MatchOption o ((mid ≡ s) × (e ≡ Ends Trap)) (λ p. MatchBool (value_at s p == v) ((mid ≡ with_cell s p n) × (e ≡ onward_with f to 1)) ((mid ≡ s) × (e ≡ onward_with f to 0))) → mid.locks ≡ s.locks
cas_locks s mid f to v n None e h = locks_of s mid h.0
cas_locks s mid f to v n (Some p) e h = swap_locks s mid p n (value_at s p == v) (onward_with f to 1) (onward_with f to 0) e h

apart_eq : (k l : ℕ) → not (k == l) ≡ true → k ≡ l → ⊥
apart_eq k l is same = absurd (grind (arith, nat_tests))

eq_of : (k l : ℕ) → (k == l) ≡ true → k ≡ l
eq_of k l is = grind (arith, nat_tests)

unlock_owner : (s mid : State) (f : Frame) (t k l : ℕ) (e : Effect) (b : Bool) → (k ≡ l → ⊥) → MatchBool b ((mid ≡ with_owner s k None) × (e ≡ onward f)) ((mid ≡ s) × (e ≡ Ends Trap)) → owner_of s l ≡ Some t → owner_of mid l ≡ Some t
unlock_owner s mid f t k l e true differ h own = ap (λ (x : State). owner_of x l) h.0 ∙ (get_or-set_other s.locks k l None None (λ same. differ (sym same)) ∙ own)
unlock_owner s mid f t k l e false differ h own = ap (λ (x : State). owner_of x l) h.0 ∙ own

-- after the instruction the thread owns the lock, if it is in its critical section then
inside_owns : (s : State) (m : Move) (f : Frame) (instr : Instr) (mid : State) (e : Effect) (l : ℕ) (b : Bool) → Carries s m f instr mid e → l < length s.locks → (b ≡ true → owner_of s l ≡ Some m.thread) → is_inside_after l instr b ≡ true → owner_of mid l ≡ Some m.thread
inside_owns s m f (Set to v) mid e l b h lt own is = same_owner s mid m.thread l (locks_of s mid h.0) (own is)
inside_owns s m f (Compute by to x y) mid e l b h lt own is = same_owner s mid m.thread l (locks_of s mid h.0) (own is)
inside_owns s m f (Load to w i) mid e l b h lt own is = same_owner s mid m.thread l (locks_of s mid h.0) (own is)
inside_owns s m f (Store w i v) mid e l b h lt own is = same_owner s mid m.thread l (store_locks s mid (value_of f v) (cell_at s f w i) (Ends Trap) (onward f) e h) (own is)
inside_owns s m f (Cas to w i x y) mid e l b h lt own is = same_owner s mid m.thread l (cas_locks s mid f to (value_of f x) (value_of f y) (cell_at s f w i) e h) (own is)
inside_owns s m f (Lock k) mid e l b h lt own is = elim (cases_eq k l) as (λ _. owner_of mid l ≡ Some m.thread) [
  | inl same ↦
      (let taken : owner_of (with_owner s k (Some m.thread)) l ≡ Some m.thread = subst (λ (x : ℕ). owner_of (with_owner s x (Some m.thread)) l ≡ Some m.thread) (sym same) (get_or-set_same s.locks l (Some m.thread) None lt) in
      ap (λ (x : State). owner_of x l) h.1 ∙ taken)
  | inr differ ↦
      (let was : b ≡ true = elim (or_cases (k == l) b is) as (λ _. b ≡ true) [ inl same ↦ absurd (differ (eq_of k l same)) | inr inside ↦ inside ] in
      ap (λ (x : State). owner_of x l) h.1 ∙ (get_or-set_other s.locks k l (Some m.thread) None (λ same. differ (sym same)) ∙ own was))
]
inside_owns s m f (Unlock k) mid e l b h lt own is =
    let parts = and_parts (not (k == l)) b is in
    unlock_owner s mid f m.thread k l e (owns s m.thread k) (apart_eq k l parts.0) h (own parts.1)
inside_owns s m f (Await w i v) mid e l b h lt own is = same_owner s mid m.thread l (locks_of s mid h.0) (own is)
inside_owns s m f (AwaitNot w i v) mid e l b h lt own is = same_owner s mid m.thread l (locks_of s mid h.0) (own is)
inside_owns s m f (Pick to count) mid e l b h lt own is = same_owner s mid m.thread l (locks_of s mid h.0) (own is)
inside_owns s m f (Jump target) mid e l b h lt own is = same_owner s mid m.thread l (locks_of s mid h.0) (own is)
inside_owns s m f (JumpIfZero v target) mid e l b h lt own is = same_owner s mid m.thread l (locks_of s mid h.0) (own is)
inside_owns s m f (Return v) mid e l b h lt own is = same_owner s mid m.thread l (locks_of s mid h.0) (own is)

goes_to : (instr : Instr) (place next : ℕ) → MayGoTo instr place next → GoesTo place instr next
goes_to (Set to v) place next is = is
goes_to (Compute by to x y) place next is = is
goes_to (Load to w i) place next is = is
goes_to (Store w i v) place next is = is
goes_to (Cas to w i x y) place next is = is
goes_to (Lock l) place next is = is
goes_to (Unlock l) place next is = is
goes_to (Await w i v) place next is = is
goes_to (AwaitNot w i v) place next is = is
goes_to (Pick to count) place next is = is
goes_to (Jump target) place next is = is
goes_to (JumpIfZero v target) place next is = is
goes_to (Return v) place next is = is

-- ---- one step

same_work : (j k : ℕ) (f g : Frame) → Some (at_work j f) ≡ Some (at_work k g) → f ≡ g
same_work j k f g is = ap frame_in (ap (λ (x : Thread). x.activity) (same_Some (at_work j f) (at_work k g) is))
  where
    frame_in : Activity → Frame
    frame_in Idle = f
    frame_in (Open h) = h

-- where the operation goes on, it owns the lock there
effect_owned : (s : State) (m : Move) (k : ℕ) (g : Frame) (instr : Instr) (mid : State) (e : Effect) (l : ℕ) (inside : ℕ → ℕ → Bool) → AreCritical s.component l inside → instr_at s.component g.op g.place ≡ Some instr → Carries s m g instr mid e → l < length s.locks → (inside g.op g.place ≡ true → owner_of s l ≡ Some m.thread) → (j : ℕ) (f : Frame) → thread_after k e ≡ at_work j f → inside f.op f.place ≡ true → owner_of mid l ≡ Some m.thread
effect_owned s m k g instr mid (GoesOn h) l inside critical at carries lt own j f is in_it =
    let same : h ≡ f = same_work k j h f (ap (λ (x : Thread). Some x) is) in
    let follows : Follows s.component g instr (GoesOn h) = carries_follows s m g instr mid (GoesOn h) carries in
    let here : inside g.op h.place ≡ true = subst (λ (op : ℕ). inside op h.place ≡ true) follows.0 (subst (λ (x : Frame). inside x.op x.place ≡ true) (sym same) in_it) in
    inside_owns s m g instr mid (GoesOn h) l (inside g.op g.place) carries lt own (critical.entered g.op g.place h.place instr at (goes_to instr g.place h.place follows.1) here)
effect_owned s m k g instr mid (Ends outcome) l inside critical at carries lt own j f is in_it = (let none : Idle ≡ Open f = ap (λ (x : Thread). x.activity) is in absurd (cc))

-- the thread that moves owns the lock, if it is in its critical section then
mover_owned : (s new : State) (m : Move) (k : ℕ) (activity : Activity) (event : Option Event) → slice_get s.threads m.thread ≡ Some (record { done = k; activity = activity }) → ByActivity s m k activity new event → IsOwned s → (l : ℕ) (inside : ℕ → ℕ → Bool) → l < length s.component.locks → AreCritical s.component l inside → (j : ℕ) (f : Frame) → slice_get new.threads m.thread ≡ Some (at_work j f) → inside f.op f.place ≡ true → owner_of new l ≡ Some m.thread
mover_owned s new m k Idle event was h is l inside lt critical j f stands in_it =
    let now : slice_get new.threads m.thread ≡ Some (at_work k (opened h.0)) = ap (λ (x : State). slice_get x.threads m.thread) h.3 ∙ get_set_same s.threads m.thread (at_work k (opened h.0)) (slice_get_within s.threads m.thread (idle k) was) in
    let same : opened h.0 ≡ f = same_work k j (opened h.0) f (sym now ∙ stands) in
    let here : inside (opened h.0).op 0 ≡ true = subst (λ (x : Frame). inside x.op x.place ≡ true) (sym same) in_it in
    let none : inside (opened h.0).op 0 ≡ false = critical.begin (opened h.0).op in
    absurd (cc)
mover_owned s new m k (Open g) event was h is l inside lt critical j f stands in_it =
    let threads = (carries_alike s m g h.0 h.1 h.2 h.5).threads in
    let within : m.thread < length h.1.threads = subst (λ (x : List Thread). m.thread < length x) (sym threads) (slice_get_within s.threads m.thread (at_work k g) was) in
    let now : slice_get new.threads m.thread ≡ Some (thread_after k h.2) = ap (λ (x : State). slice_get x.threads m.thread) h.6 ∙ get_set_same h.1.threads m.thread (thread_after k h.2) within in
    let same : thread_after k h.2 ≡ at_work j f = same_Some (thread_after k h.2) (at_work j f) (sym now ∙ stands) in
    let many = is.many in
    let owned : owner_of h.1 l ≡ Some m.thread = effect_owned s m k g h.0 h.1 h.2 l inside critical h.3 h.5 (omega (arith, lt, many)) (is.owned l inside lt critical m.thread k g was) j f same in_it in
    ap (λ (x : State). owner_of x l) h.6 ∙ owned

written_locks : (s : State) (w : Shared) (t : ℕ) (now : Thread) → length (written s w t now).locks ≡ length s.locks
written_locks s Nothing t now = refl
written_locks s (Cell p n) t now = refl
written_locks s (Owner l owner) t now = length-set s.locks l owner

one_owned : (s new : State) (m : Move) (k : ℕ) (activity : Activity) (event : Option Event) → slice_get s.threads m.thread ≡ Some (record { done = k; activity = activity }) → ByActivity s m k activity new event → IsOwned s → IsOwned new
one_owned s new m k activity event was h is =
    let o = once s new m k activity event was h in
    let component : new.component ≡ s.component = ap (λ (x : State). x.component) o.is ∙ shared_component s o.wrote in
    record {
      many = ap (λ (x : State). length x.locks) o.is ∙ (written_locks s o.wrote m.thread o.now ∙ (is.many ∙ ap (λ (c : Component). length c.locks) (sym component)));
      owned = λ l inside lt critical u j f stands in_it.
          (let there : AreCritical s.component l inside = subst (λ (c : Component). AreCritical c l inside) component critical in
          let few : l < length s.component.locks = subst (λ (c : Component). l < length c.locks) component lt in
          elim (cases_eq m.thread u) as (λ _. owner_of new l ≡ Some u) [
            | inl same ↦ subst (λ (t : ℕ). owner_of new l ≡ Some t) same
                (mover_owned s new m k activity event was h is l inside few there j f (subst (λ (t : ℕ). slice_get new.threads t ≡ Some (at_work j f)) (sym same) stands) in_it)
            | inr other ↦
                (let before : slice_get s.threads u ≡ Some (at_work j f) = sym (ap (λ (x : State). slice_get x.threads u) o.is ∙ written_other s o.wrote m.thread u o.now other) ∙ stands in
                let own = is.owned l inside few there u j f before in_it in
                let still : owns new u l ≡ owns s u l = ap (λ (x : State). owns x u l) o.is ∙ owns_still s o.wrote m.thread u l o.now other o.hands in
                owner_is (owner_of new l) u (still ∙ owner_owns (owner_of s l) u own))
          ]);
    }

step_one : (s new : State) (m : Move) (event : Option Event) → OneStep s m new event → IsOwned s → IsOwned new
step_one s new m event one is =
    let thread : Thread = one.0 in
    let by : ByActivity s m thread.done thread.activity new event = one_step_by s m new event thread one.1 one in
    one_owned s new m thread.done thread.activity event one.1 by is

runs_owned : (n : ℕ) (s : State) (t : ℕ) (end : State) → RunsOn n s t end → IsOwned s → IsOwned end
runs_owned zero s t end runs is = subst IsOwned (sym runs) is
runs_owned (suc n) s t end runs is = by_test (λ x. runs_owned n x t end) (is_at_local s t) runs
  where
    by_test : ((x : State) → RunsOn n x t end → IsOwned x → IsOwned end) → (test : Bool) → MatchBool test ((next : State) × OneStep s (record { thread = t; pick = 0 }) next None × RunsOn n next t end) (end ≡ s) → IsOwned end
    by_test go true h = go h.0 h.2 (step_one s h.0 (record { thread = t; pick = 0 }) None h.1 is)
    by_test go false h = subst IsOwned (sym h) is

-- a move keeps it so
pub step_owned : (s : State) (m : Move) (new : State) (event : Option Event) → Step s m new event → IsOwned s → IsOwned new
step_owned s m new event step is = runs_owned (more_local s m.thread) step.0 m.thread new step.2 (step_one s step.0 m event step.1 is)

-- ---- two threads

-- no two threads are at accesses of an array that is guarded
pub one_accesses : (s : State) (w t u j k : ℕ) (f g : Frame) (a b : Instr) → IsOwned s → IsGuarded s.component w → slice_get s.threads t ≡ Some (at_work j f) → slice_get s.threads u ≡ Some (at_work k g) → instr_at s.component f.op f.place ≡ Some a → instr_at s.component g.op g.place ≡ Some b → array_of a ≡ Some w → array_of b ≡ Some w → t ≡ u
one_accesses s w t u j k f g a b is guarded one two at here first second =
    let l = guarded.1 in
    let mine = is.owned l guarded.3.0 guarded.2 guarded.3.1 t j f one (guarded.3.2 f.op f.place a at first) in
    let theirs = is.owned l guarded.3.0 guarded.2 guarded.3.1 u k g two (guarded.3.2 g.op g.place b here second) in
    same_Some t u (sym mine ∙ theirs)

first-cons : (a : Array) (arrays : List Array) (w : ℕ) → first_cell (a ∷ arrays) (suc w) ≡ a.len + first_cell arrays w
unfolding first_cell
first-cons a arrays w = sum_by-cons (λ (b : Array). b.len) a (take w arrays)

first-zero : (arrays : List Array) → first_cell arrays zero ≡ 0
unfolding first_cell
first-zero arrays = refl

-- the cells of an array come before those of the arrays after it
cells_before : (arrays : List Array) (w v i : ℕ) (a : Array) → slice_get arrays w ≡ Some a → i < a.len → w < v → first_cell arrays w + i < first_cell arrays v
cells_before [] w v i a at lt before = absurd (cc)
cells_before (b ∷ arrays) w zero i a at lt before = absurd (omega (arith, before))
cells_before (b ∷ arrays) zero (suc v) i a at lt before =
    let same : b.len ≡ a.len = ap (λ (x : Array). x.len) (same_Some b a at) in
    let none = first-zero (b ∷ arrays) in
    let more = first-cons b arrays v in
    omega (arith, same, none, more, lt)
cells_before (b ∷ arrays) (suc w) (suc v) i a at lt before =
    let on = cells_before arrays w v i a at lt (omega (arith, before)) in
    let one = first-cons b arrays w in
    let more = first-cons b arrays v in
    omega (arith, on, one, more)

-- where a cell stands among those of its array
cell_place : (c : Component) (w i p : ℕ) (o : Option Array) → slice_get c.arrays w ≡ o → option_and_then (λ (a : Array). if nat_lt i a.len then Some (first_cell c.arrays w + i) else None) o ≡ Some p → (a : Array) × (slice_get c.arrays w ≡ Some a) × (i < a.len) × (p ≡ first_cell c.arrays w + i)
cell_place c w i p None at is = absurd (cc)
cell_place c w i p (Some a) at is = by_test (nat_lt i a.len) refl is
  where
    by_test : (b : Bool) → nat_lt i a.len ≡ b → (if b then Some (first_cell c.arrays w + i) else None) ≡ Some p → (a : Array) × (slice_get c.arrays w ≡ Some a) × (i < a.len) × (p ≡ first_cell c.arrays w + i)
    by_test true lt is = (a, at, ltb-true i a.len lt, sym (same_Some (first_cell c.arrays w + i) p is))
    by_test false lt is = absurd (cc)

cell_stands : (c : Component) (w i p : ℕ) → cell_of c w i ≡ Some p → (a : Array) × (slice_get c.arrays w ≡ Some a) × (i < a.len) × (p ≡ first_cell c.arrays w + i)
unfolding cell_of
cell_stands c w i p is = cell_place c w i p (slice_get c.arrays w) refl is

-- a cell is of one array
pub one_array : (c : Component) (w v i j p : ℕ) → cell_of c w i ≡ Some p → cell_of c v j ≡ Some p → w ≡ v
one_array c w v i j p one two =
    let x = cell_stands c w i p one in
    let y = cell_stands c v j p two in
    let first = x.3 in
    let second = y.3 in
    elim (cases_lt w v) as (λ _. w ≡ v) [
      | inl lt ↦ (let before = cells_before c.arrays w v i x.0 x.1 x.2 lt in absurd (omega (arith, before, first, second)))
      | inr ge ↦ elim (cases_lt v w) as (λ _. w ≡ v) [
        | inl lt ↦ (let before = cells_before c.arrays v w j y.0 y.1 y.2 lt in absurd (omega (arith, before, first, second)))
        | inr le ↦ omega (arith, ge, le)
      ]
    ]

-- ---- where a run starts

leads_locks : (s : State) (u : List Move) (end : State) (h : List Event) → Leads s u end h → length end.locks ≡ length s.locks
leads_locks s [] end h leads = ap (λ (x : State). length x.locks) leads.0
leads_locks s (m ∷ u) end h leads =
    let d = does_near s leads.0 m leads.1 leads.3 in
    leads_locks leads.0 u end leads.2 leads.4 ∙ (ap (λ (x : State). length x.locks) d.is ∙ written_locks s d.wrote m.thread d.now)

made_locks : (c : Component) (calls : List Call) (k : ℕ) (end : State) → MakesAll c calls k end → length end.locks ≡ length c.locks
made_locks c calls zero end made = ap (λ (x : State). length x.locks) made ∙ length-replicate (length c.locks) None
made_locks c calls (suc k) end made = leads_locks made.0 (first_move ∷ replicate made.2.moves first_move) end made.2.history made.2.leads ∙ made_locks c calls k made.0 made.1

idle_there : (n t : ℕ) (k : ℕ) (f : Frame) → slice_get (replicate n (idle 0)) t ≡ Some (at_work k f) → ⊥
idle_there zero t k f is = cc
idle_there (suc n) zero k f is = (let none : Idle ≡ Open f = ap (λ (x : Thread). x.activity) (same_Some (idle 0) (at_work k f) is) in cc)
idle_there (suc n) (suc t) k f is = idle_there n t k f is

pub start_owned : (c : Component) (matrix : Matrix) (s : State) → IsStart c matrix s → IsOwned s
start_owned c matrix s start = subst IsOwned (sym start.is) (record {
  many = made_locks c matrix.setup (length matrix.setup) start.end start.made;
  owned = λ l inside lt critical t k f stands in_it. absurd (idle_there (thread_count matrix) t k f stands);
})

leads_owned : (s : State) (u : List Move) (end : State) (h : List Event) → Leads s u end h → IsOwned s → IsOwned end
leads_owned s [] end h leads is = subst IsOwned (sym leads.0) is
leads_owned s (m ∷ u) end h leads is = leads_owned leads.0 u end leads.2 leads.4 (step_owned s m leads.0 leads.1 leads.3 is)

leads_component : (s : State) (u : List Move) (end : State) (h : List Event) → Leads s u end h → end.component ≡ s.component
leads_component s [] end h leads = ap (λ (x : State). x.component) leads.0
leads_component s (m ∷ u) end h leads = leads_component leads.0 u end leads.2 leads.4 ∙ (step_moved s m leads.0 leads.1 leads.3).component

pub guarded_is_owned : GuardedIsOwned
guarded_is_owned c matrix s start u end h leads w l lt guarded t done f instr stands at of =
    let is = leads_owned s u end h leads (start_owned c matrix s start) in
    let component : end.component ≡ c = leads_component s u end h leads ∙ ap (λ (x : State). x.component) start.is in
    let few : l < length end.component.locks = subst (λ (d : Component). l < length d.locks) (sym component) lt in
    let critical : AreCritical end.component l guarded.0 = subst (λ (d : Component). AreCritical d l guarded.0) (sym component) guarded.1 in
    let here : instr_at c f.op f.place ≡ Some instr = subst (λ (d : Component). instr_at d f.op f.place ≡ Some instr) component at in
    is.owned l guarded.0 few critical t done f stands (guarded.2 f.op f.place instr here of)

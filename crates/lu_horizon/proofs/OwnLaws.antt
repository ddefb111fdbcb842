-- Moves keep a run's states, and where a thread stands after its own and other threads' moves.
use Rattle.std.proofs.Common.{◌≡◌, ℕ, zero, suc, ◌+◌, ◌<◌, ◌==◌, ◌⊎◌, if◌then◌else◌, Bool, true, false, List, [], ◌∷◌, Option, Some, None, MatchOption, MatchBool, is_some, slice_get, slice_set, replicate, length, refl, sym, ◌∙◌, ap, subst, inl, inr, arith}
use Rattle.std.proofs.lemmas.Bool.{cases_eq}
use Rattle.std.proofs.lemmas.Option.{same_Some, slice_get_within}
use Rattle.lu_component.specs.declared.instr.Instr.{Instr}
use Rattle.lu_component.specs.declared.instr.Instr.TheVariants.{Set, Compute, Load, Store, Cas, Lock, Unlock, Await, AwaitNot, Pick, Jump, JumpIfZero, Return}
use Rattle.lu_component.specs.declared.instr.Operand.{Operand}
use Rattle.lu_component.specs.declared.instr.Operand.TheVariants.{Reg, Num}
use Rattle.lu_component.specs.Component.{Component}
use Rattle.lu_test.specs.declared.matrix.Call.{Call}
use Rattle.lu_test.specs.declared.schedule.Move.{Move}
use Rattle.lu_test.specs.Matrix.{Matrix, calls_of, thread_count}
use Rattle.lu_machine.specs.declared.event.Event.{Event}
use Rattle.lu_machine.specs.declared.event.Outcome.TheVariants.{Trap}
use Rattle.lu_machine.specs.declared.thread.Frame.{Frame}
use Rattle.lu_machine.specs.declared.thread.Activity.{Activity}
use Rattle.lu_machine.specs.declared.thread.Activity.TheVariants.{Idle, Open}
use Rattle.lu_machine.specs.declared.thread.Thread.{Thread}
use Rattle.lu_machine.specs.Effects.{Effect, value_of, onward, onward_at, onward_with}
use Rattle.lu_machine.specs.Effects.Effect.{GoesOn, Ends}
use Rattle.lu_machine.specs.Changes.{at_work, idle}
use Rattle.lu_machine.specs.Runs.{Leads}
use Rattle.lu_machine.specs.Starts.{IsStart}
use Rattle.lu_machine.specs.States.{State, cell_at, instr_at, value_at, with_cell, with_owner}
use Rattle.lu_machine.specs.Steps.{Carries, ByActivity, OneStep, RunsOn, Step, is_at_local, more_local, opened, owns, thread_after}
use Rattle.lu_machine.proofs.Keeping.{carries_alike, step_moved}
use Rattle.lu_horizon.specs.Code.{is_certain_cell}
use Rattle.lu_horizon.specs.Own.{IsOwn, IsIdle, IsOpenAt}
use Rattle.lu_horizon.specs.Tables.{IsTable, ThreadOutlooks, Serves}

pub get_set_same : {A : Type 0} (xs : List A) (i : ℕ) (y : A) → i < length xs → slice_get (slice_set xs i y) i ≡ Some y
get_set_same [] i y h = absurd (omega arith)
get_set_same (x ∷ xs) zero y h = refl
get_set_same (x ∷ xs) (suc i) y h = get_set_same xs i y (omega arith)

pub get_set_other : {A : Type 0} (xs : List A) (i j : ℕ) (y : A) → (j ≡ i → ⊥) → slice_get (slice_set xs i y) j ≡ slice_get xs j
get_set_other [] i j y h = refl
get_set_other (x ∷ xs) zero zero y h = absurd (h refl)
get_set_other (x ∷ xs) zero (suc j) y h = refl
get_set_other (x ∷ xs) (suc i) zero y h = refl
get_set_other (x ∷ xs) (suc i) (suc j) y h = get_set_other xs i j y (λ e. h (ap suc e))

-- where an operation may go on from this place
abbrev pub MayGoTo : Instr → ℕ → ℕ → Type 0
MayGoTo (Jump target) place next = next ≡ target
MayGoTo (JumpIfZero v target) place next = (next ≡ target) ⊎ (next ≡ place + 1)
MayGoTo (Return v) place next = ⊥
MayGoTo _ place next = next ≡ place + 1

-- whether it may end
abbrev pub MayEnd : Component → Instr → Type 0
MayEnd c (Load to w i) = is_certain_cell c w i ≡ false
MayEnd c (Store w i v) = is_certain_cell c w i ≡ false
MayEnd c (Cas to w i expected desired) = is_certain_cell c w i ≡ false
MayEnd c (Unlock l) = Unit {0}
MayEnd c (Await w i v) = Unit {0}
MayEnd c (AwaitNot w i v) = Unit {0}
MayEnd c (Return v) = Unit {0}
MayEnd c _ = ⊥

abbrev pub Follows : Component → Frame → Instr → Effect → Type 0
Follows c f instr (GoesOn g) = (g.op ≡ f.op) × MayGoTo instr f.place g.place
Follows c f instr (Ends outcome) = MayEnd c instr

not_there : (s : State) (f : Frame) (w : ℕ) (i : Operand) → cell_at s f w i ≡ None → is_certain_cell s.component w i ≡ false
not_there s f w (Reg r) at = refl
not_there s f w (Num n) at = ap is_some at

load_follows : (s : State) (f : Frame) (to w : ℕ) (i : Operand) (o : Option ℕ) → cell_at s f w i ≡ o → (e : Effect) → MatchOption o (e ≡ Ends Trap) (λ p. e ≡ onward_with f to (value_at s p)) → Follows s.component f (Load to w i) e
load_follows s f to w i None at e h = rw h (not_there s f w i at)
load_follows s f to w i (Some p) at e h = rw h (refl, refl)

store_follows : (s new : State) (f : Frame) (w : ℕ) (i v : Operand) (n : ℕ) (o : Option ℕ) → cell_at s f w i ≡ o → (e : Effect) → MatchOption o ((new ≡ s) × (e ≡ Ends Trap)) (λ p. (new ≡ with_cell s p n) × (e ≡ onward f)) → Follows s.component f (Store w i v) e
store_follows s new f w i v n None at e h = rw h.1 (not_there s f w i at)
store_follows s new f w i v n (Some p) at e h = rw h.1 (refl, refl)

swap_follows : (s new one : State) (f : Frame) (to w : ℕ) (i x y : Operand) (b : Bool) (e : Effect) → MatchBool b ((new ≡ one) × (e ≡ onward_with f to 1)) ((new ≡ s) × (e ≡ onward_with f to 0)) → Follows s.component f (Cas to w i x y) e
swap_follows s new one f to w i x y true e h = rw h.1 (refl, refl)
swap_follows s new one f to w i x y false e h = rw h.1 (refl, refl)

cas_follows : (s new : State) (f : Frame) (to w : ℕ) (i x y : Operand) (v n : ℕ) (o : Option ℕ) → cell_at s f w i ≡ o → (e : Effect) → MatchOption o ((new ≡ s) × (e ≡ Ends Trap)) (λ p. MatchBool (value_at s p == v) ((new ≡ with_cell s p n) × (e ≡ onward_with f to 1)) ((new ≡ s) × (e ≡ onward_with f to 0))) → Follows s.component f (Cas to w i x y) e
cas_follows s new f to w i x y v n None at e h = rw h.1 (not_there s f w i at)
cas_follows s new f to w i x y v n (Some p) at e h = swap_follows s new (with_cell s p n) f to w i x y (value_at s p == v) e h

unlock_follows : (s new one : State) (f : Frame) (l : ℕ) (b : Bool) (e : Effect) → MatchBool b ((new ≡ one) × (e ≡ onward f)) ((new ≡ s) × (e ≡ Ends Trap)) → Follows s.component f (Unlock l) e
unlock_follows s new one f l true e h = rw h.1 (refl, refl)
unlock_follows s new one f l false e h = rw h.1 tt

await_follows : (s : State) (f : Frame) (w : ℕ) (i v : Operand) (P : ℕ → Type 0) (o : Option ℕ) (e : Effect) → MatchOption o (e ≡ Ends Trap) (λ p. P p × (e ≡ onward f)) → Follows s.component f (Await w i v) e
await_follows s f w i v P None e h = rw h tt
await_follows s f w i v P (Some p) e h = rw h.1 (refl, refl)

await_not_follows : (s : State) (f : Frame) (w : ℕ) (i v : Operand) (P : ℕ → Type 0) (o : Option ℕ) (e : Effect) → MatchOption o (e ≡ Ends Trap) (λ p. P p × (e ≡ onward f)) → Follows s.component f (AwaitNot w i v) e
await_not_follows s f w i v P None e h = rw h tt
await_not_follows s f w i v P (Some p) e h = rw h.1 (refl, refl)

jump_follows : (c : Component) (f : Frame) (v : Operand) (target : ℕ) (b : Bool) → Follows c f (JumpIfZero v target) (if b then onward_at f target else onward f)
jump_follows c f v target true = (refl, inl refl)
jump_follows c f v target false = (refl, inr refl)

pub carries_follows : (s : State) (m : Move) (f : Frame) (instr : Instr) (new : State) (e : Effect) → Carries s m f instr new e → Follows s.component f instr e
carries_follows s m f (Set to v) new e h = rw h.1 (refl, refl)
carries_follows s m f (Compute by to x y) new e h = rw h.1 (refl, refl)
carries_follows s m f (Load to w i) new e h = load_follows s f to w i (cell_at s f w i) refl e h.1
carries_follows s m f (Store w i v) new e h = store_follows s new f w i v (value_of f v) (cell_at s f w i) refl e h
carries_follows s m f (Cas to w i x y) new e h = cas_follows s new f to w i x y (value_of f x) (value_of f y) (cell_at s f w i) refl e h
carries_follows s m f (Lock l) new e h = rw h.2 (refl, refl)
carries_follows s m f (Unlock l) new e h = unlock_follows s new (with_owner s l None) f l (owns s m.thread l) e h
carries_follows s m f (Await w i v) new e h = await_follows s f w i v (λ p. value_at s p ≡ value_of f v) (cell_at s f w i) e h.1
carries_follows s m f (AwaitNot w i v) new e h = await_not_follows s f w i v (λ p. value_at s p ≡ value_of f v → ⊥) (cell_at s f w i) e h.1
carries_follows s m f (Pick to count) new e h = rw h.1 (refl, refl)
carries_follows s m f (Jump target) new e h = rw h.1 (refl, refl)
carries_follows s m f (JumpIfZero v target) new e h = rw h.1 (jump_follows s.component f v target (value_of f v == 0))
carries_follows s m f (Return v) new e h = rw h.1 tt

-- what an open operation's move does
pub record Goes (s : State) (t k : ℕ) (f : Frame) (new : State) : Type 0 where
  pub instr : Instr
  pub is : instr_at s.component f.op f.place ≡ Some instr
  pub effect : Effect
  pub threads : new.threads ≡ slice_set s.threads t (thread_after k effect)
  pub follows : Follows s.component f instr effect

open_goes : (s : State) (m : Move) (k : ℕ) (f : Frame) (new : State) (event : Option Event) → ByActivity s m k (Open f) new event → Goes s m.thread k f new
open_goes s m k f new event h =
    let mid = carries_alike s m f h.0 h.1 h.2 h.5 in
    record {
      instr = h.0;
      is = h.3;
      effect = h.2;
      threads = ap (λ (x : State). x.threads) h.6 ∙ ap (λ (x : List Thread). slice_set x m.thread (thread_after k h.2)) mid.threads;
      follows = carries_follows s m f h.0 h.1 h.2 h.5;
    }

-- a thread's call or instruction changes where it stands, and else cells and locks alone
record Turned (s : State) (t : ℕ) (new : State) : Type 0 where
  component : new.component ≡ s.component
  matrix : new.matrix ≡ s.matrix
  now : Thread
  threads : new.threads ≡ slice_set s.threads t now

by_turned : (s : State) (m : Move) (k : ℕ) (activity : Activity) (new : State) (event : Option Event) → ByActivity s m k activity new event → Turned s m.thread new
by_turned s m k Idle new event h = record {
  component = ap (λ (x : State). x.component) h.3;
  matrix = ap (λ (x : State). x.matrix) h.3;
  now = record { done = k; activity = Open (opened h.0) };
  threads = ap (λ (x : State). x.threads) h.3;
}
by_turned s m k (Open f) new event h =
    let mid = carries_alike s m f h.0 h.1 h.2 h.5 in
    record {
      component = ap (λ (x : State). x.component) h.6 ∙ mid.component;
      matrix = ap (λ (x : State). x.matrix) h.6 ∙ mid.matrix;
      now = thread_after k h.2;
      threads = ap (λ (x : State). x.threads) h.6 ∙ ap (λ (x : List Thread). slice_set x m.thread (thread_after k h.2)) mid.threads;
    }

one_turned : (s : State) (m : Move) (new : State) (event : Option Event) → OneStep s m new event → Turned s m.thread new
one_turned s m new event one = by_turned s m one.0.done one.0.activity new event one.2

-- the call or instruction of a thread that stands so
pub one_step_by : (s : State) (m : Move) (new : State) (event : Option Event) (thread : Thread) → slice_get s.threads m.thread ≡ Some thread → OneStep s m new event → ByActivity s m thread.done thread.activity new event
one_step_by s m new event thread stands one =
    let same : one.0 ≡ thread = same_Some one.0 thread (sym one.1 ∙ stands) in
    rw same at one.2

-- another thread stands as it stood
pub other_stands : (s : State) (m : Move) (new : State) (event : Option Event) (t : ℕ) → (m.thread ≡ t → ⊥) → Step s m new event → slice_get new.threads t ≡ slice_get s.threads t
other_stands s m new event t other step =
    let moved = step_moved s m new event step in
    ap (λ (x : List Thread). slice_get x t) moved.threads ∙ get_set_other s.threads m.thread t moved.now (λ e. other (sym e))

one_other_stands : (s : State) (m : Move) (new : State) (event : Option Event) (t : ℕ) → (m.thread ≡ t → ⊥) → OneStep s m new event → slice_get new.threads t ≡ slice_get s.threads t
one_other_stands s m new event t other one =
    let turned = one_turned s m new event one in
    ap (λ (x : List Thread). slice_get x t) turned.threads ∙ get_set_other s.threads m.thread t turned.now (λ e. other (sym e))

-- the thread itself stands as the move leaves it
pub itself_stands : (s new : State) (t : ℕ) (was now : Thread) → slice_get s.threads t ≡ Some was → new.threads ≡ slice_set s.threads t now → slice_get new.threads t ≡ Some now
itself_stands s new t was now stands is = ap (λ (x : List Thread). slice_get x t) is ∙ get_set_same s.threads t now (slice_get_within s.threads t was stands)

-- after a thread's own call or instruction: an idle one has opened its next call
idle_opens : (s : State) (m : Move) (k : ℕ) (new : State) (event : Option Event) → slice_get s.threads m.thread ≡ Some (record { done = k; activity = Idle }) → OneStep s m new event → (call : Call) × (slice_get (calls_of s.matrix m.thread) k ≡ Some call) × (slice_get new.threads m.thread ≡ Some (record { done = k; activity = Open (opened call) }))
idle_opens s m k new event stands one =
    let was : Thread = record { done = k; activity = Idle } in
    let h : ByActivity s m k Idle new event = one_step_by s m new event was stands one in
    let now : Thread = record { done = k; activity = Open (opened h.0) } in
    (h.0, h.1, itself_stands s new m.thread was now stands (ap (λ (x : State). x.threads) h.3))

-- and what an open operation has done
open_moves : (s : State) (m : Move) (k : ℕ) (f : Frame) (new : State) (event : Option Event) → slice_get s.threads m.thread ≡ Some (record { done = k; activity = Open f }) → OneStep s m new event → (g : Goes s m.thread k f new) × (slice_get new.threads m.thread ≡ Some (thread_after k g.effect))
open_moves s m k f new event stands one =
    let was : Thread = record { done = k; activity = Open f } in
    let g = open_goes s m k f new event (one_step_by s m new event was stands one) in
    (g, itself_stands s new m.thread was (thread_after k g.effect) stands g.threads)

stays_open : (c : Component) (f g : Frame) (instr : Instr) (k j : ℕ) (e : Effect) → Follows c f instr e → thread_after k e ≡ record { done = j; activity = Open g } → (k ≡ j) × (g.op ≡ f.op)
stays_open c f g instr k j (GoesOn x) follows same =
    let open_ : Open x ≡ Open g = ap (λ (y : Thread). y.activity) same in
    let is : x ≡ g = cc in
    (ap (λ (y : Thread). y.done) same, ap (λ (y : Frame). y.op) (sym is) ∙ follows.0)
stays_open c f g instr k j (Ends outcome) follows same =
    let idle : Idle ≡ Open g = ap (λ (y : Thread). y.activity) same in
    absurd (cc)

module _ (c : Component) (matrix : Matrix) (s : State) (m : Move) (new : State) (event : Option Event) (o : IsOwn c matrix s) (one : OneStep s m new event) where
  own_itself : (k : ℕ) (activity : Activity) → slice_get s.threads m.thread ≡ Some (record { done = k; activity = activity }) → (j : ℕ) (g : Frame) → slice_get new.threads m.thread ≡ Some (record { done = j; activity = Open g }) → (call : Call) × (slice_get (calls_of matrix m.thread) j ≡ Some call) × (g.op ≡ call.op)
  own_itself k Idle stands j g at =
      let opens = idle_opens s m k new event stands one in
      let a : Thread = record { done = k; activity = Open (opened opens.0) } in
      let b : Thread = record { done = j; activity = Open g } in
      let same : a ≡ b = same_Some a b (sym opens.2 ∙ at) in
      let open_ : Open (opened opens.0) ≡ Open g = ap (λ (y : Thread). y.activity) same in
      let is : opened opens.0 ≡ g = cc in
      let number : k ≡ j = ap (λ (y : Thread). y.done) same in
      let called : slice_get (calls_of s.matrix m.thread) j ≡ Some opens.0 = rw (← number) opens.1 in
      (opens.0, subst (λ x. slice_get (calls_of x m.thread) j ≡ Some opens.0) o.matrix_is called, ap (λ (y : Frame). y.op) (sym is))
  own_itself k (Open f) stands j g at =
      let moves = open_moves s m k f new event stands one in
      let same : thread_after k moves.0.effect ≡ record { done = j; activity = Open g } = same_Some _ _ (sym moves.1 ∙ at) in
      let stays = stays_open s.component f g moves.0.instr k j moves.0.effect moves.0.follows same in
      let was = o.own m.thread k f stands in
      (was.0, rw (← stays.0) was.1, stays.1 ∙ was.2)

  -- a call or an instruction keeps the states of a run
  one_keeps_own : IsOwn c matrix new
  one_keeps_own =
      let turned = one_turned s m new event one in
      record {
        component = turned.component ∙ o.component;
        matrix_is = turned.matrix ∙ o.matrix_is;
        own = λ t k f at. elim (cases_eq m.thread t) [
          | inl same ↦
              (let at' : slice_get new.threads m.thread ≡ Some (record { done = k; activity = Open f }) = rw same at in
              let own = own_itself one.0.done one.0.activity one.1 k f at' in
              (own.0, rw (← same) own.1, own.2))
          | inr other ↦ o.own t k f (sym (one_other_stands s m new event t other one) ∙ at)
        ];
      }

-- so do local instructions that follow
runs_keep_own : (c : Component) (matrix : Matrix) (n : ℕ) (s : State) (t : ℕ) (end : State) → RunsOn n s t end → IsOwn c matrix s → IsOwn c matrix end
runs_keep_own c matrix zero s t end runs own = rw runs own
runs_keep_own c matrix (suc n) s t end runs own = by_test (λ x. runs_keep_own c matrix n x t end) (is_at_local s t) runs
  where
    by_test : ((x : State) → RunsOn n x t end → IsOwn c matrix x → IsOwn c matrix end) → (test : Bool) → MatchBool test ((next : State) × OneStep s (record { thread = t; pick = 0 }) next None × RunsOn n next t end) (end ≡ s) → IsOwn c matrix end
    by_test go true h = go h.0 h.2 (one_keeps_own c matrix s (record { thread = t; pick = 0 }) h.0 None own h.1)
    by_test go false h = rw h own

-- a move keeps the states of a run
pub step_keeps_own : (c : Component) (matrix : Matrix) (s : State) (m : Move) (new : State) (event : Option Event) → IsOwn c matrix s → Step s m new event → IsOwn c matrix new
step_keeps_own c matrix s m new event o step =
    runs_keep_own c matrix (more_local s m.thread) step.0 m.thread new step.2 (one_keeps_own c matrix s m step.0 event o step.1)

-- no idle thread runs on
pub idle_stays : (n : ℕ) (s : State) (t k : ℕ) (end : State) → slice_get s.threads t ≡ Some (record { done = k; activity = Idle }) → RunsOn n s t end → end ≡ s
idle_stays zero s t k end stands runs = runs
idle_stays (suc n) s t k end stands runs = rw stands at runs

follows_same : (a b : Component) (f : Frame) (i j : Instr) (e : Effect) → a ≡ b → i ≡ j → Follows a f i e → Follows b f j e
follows_same a b f i j e same is h = subst (λ x. Follows b f x e) is (subst (λ x. Follows x f i e) same h)

module _ (c : Component) (matrix : Matrix) (t k : ℕ) (s : State) (m : Move) (new : State) (event : Option Event) (step : Step s m new event) where
  -- another thread's move leaves a thread where it is
  pub other_idle : IsIdle c matrix t k s → (m.thread ≡ t → ⊥) → IsIdle c matrix t k new
  other_idle i other = record {
    own = step_keeps_own c matrix s m new event i.own step;
    stands = other_stands s m new event t other step ∙ i.stands;
  }

  pub other_at : (place : ℕ) → IsOpenAt c matrix t k place s → (m.thread ≡ t → ⊥) → IsOpenAt c matrix t k place new
  other_at place a other = record {
    own = step_keeps_own c matrix s m new event a.own step;
    frame = a.frame;
    stands = other_stands s m new event t other step ∙ a.stands;
    place_is = a.place_is;
  }

module _ (c : Component) (matrix : Matrix) (t k : ℕ) (s : State) (m : Move) (new : State) (event : Option Event) (one : OneStep s m new event) where
  -- the first step of its own opens its next call
  pub own_opens : IsIdle c matrix t k s → m.thread ≡ t → IsOpenAt c matrix t k 0 new
  own_opens i same =
      let stands : slice_get s.threads m.thread ≡ Some (record { done = k; activity = Idle }) = rw same i.stands in
      let opens = idle_opens s m k new event stands one in
      record {
        own = one_keeps_own c matrix s m new event i.own one;
        frame = opened opens.0;
        stands = rw (← same) opens.2;
        place_is = refl;
      }

  -- or does what the instruction may do
  pub own_goes : (place : ℕ) (a : IsOpenAt c matrix t k place s) → m.thread ≡ t → (instr : Instr) → instr_at s.component a.frame.op a.frame.place ≡ Some instr → ((q : ℕ) × MayGoTo instr place q × IsOpenAt c matrix t k q new) ⊎ (MayEnd c instr × IsIdle c matrix t (k + 1) new)
  own_goes place a same instr at =
      let stands : slice_get s.threads m.thread ≡ Some (record { done = k; activity = Open a.frame }) = rw same a.stands in
      let moves = open_moves s m k a.frame new event stands one in
      let is : moves.0.instr ≡ instr = same_Some moves.0.instr instr (sym moves.0.is ∙ at) in
      let follows : Follows c a.frame instr moves.0.effect = follows_same s.component c a.frame moves.0.instr instr moves.0.effect a.own.component is moves.0.follows in
      by_effect moves.0.effect follows (subst (λ (x : ℕ). slice_get new.threads x ≡ Some (thread_after k moves.0.effect)) same moves.1)
    where
      by_effect : (e : Effect) → Follows c a.frame instr e → slice_get new.threads t ≡ Some (thread_after k e) → ((q : ℕ) × MayGoTo instr place q × IsOpenAt c matrix t k q new) ⊎ (MayEnd c instr × IsIdle c matrix t (k + 1) new)
      by_effect (GoesOn g) follows now =
          inl (g.place, rw a.place_is at follows.1, record { own = one_keeps_own c matrix s m new event a.own one; frame = g; stands = now; place_is = refl })
      by_effect (Ends outcome) follows now =
          inr (follows, record { own = one_keeps_own c matrix s m new event a.own one; stands = now })

pub leads_keeps_own : (c : Component) (matrix : Matrix) (s : State) (u : List Move) (end : State) (h : List Event) → Leads s u end h → IsOwn c matrix s → IsOwn c matrix end
leads_keeps_own c matrix s [] end h leads own = rw leads.0 own
leads_keeps_own c matrix s (m ∷ u) end h leads own =
    leads_keeps_own c matrix leads.0 u end leads.2 leads.4 (step_keeps_own c matrix s m leads.0 leads.1 own leads.3)

-- the table of a run serves all its states
pub serves_next : (table : List ThreadOutlooks) (s : State) (m : Move) (new : State) (event : Option Event) → Serves table s → Step s m new event → Serves table new
serves_next table s m new event serves step =
    let own = step_keeps_own s.component s.matrix s m new event serves.own step in
    record {
      numbers = subst (λ x. IsTable x new.matrix table) (sym own.component) (subst (λ x. IsTable s.component x table) (sym own.matrix_is) serves.numbers);
      own = subst (λ x. IsOwn x new.matrix new) (sym own.component) (subst (λ x. IsOwn s.component x new) (sym own.matrix_is) own);
    }

-- the component stays
pub leads_component : (s : State) (u : List Move) (end : State) (h : List Event) → Leads s u end h → end.component ≡ s.component
leads_component s [] end h leads = ap (λ (x : State). x.component) leads.0
leads_component s (m ∷ u) end h leads =
    leads_component leads.0 u end leads.2 leads.4 ∙ (step_moved s m leads.0 leads.1 leads.3).component

pub serves_end : (table : List ThreadOutlooks) (s : State) (u : List Move) (end : State) (h : List Event) → Leads s u end h → Serves table s → Serves table end
serves_end table s [] end h leads serves = rw leads.0 serves
serves_end table s (m ∷ u) end h leads serves = serves_end table leads.0 u end leads.2 leads.4 (serves_next table s m leads.0 leads.1 serves leads.3)

idle_threads : (n t k : ℕ) (f : Frame) → slice_get (replicate n (idle 0)) t ≡ Some (at_work k f) → ⊥
idle_threads zero t k f at = cc
idle_threads (suc n) zero k f at =
    let same : Idle ≡ Open f = ap (λ (y : Thread). y.activity) (same_Some (idle 0) (at_work k f) at) in
    cc
idle_threads (suc n) (suc t) k f at = idle_threads n t k f at

-- at the start nothing is open
pub start_own : (c : Component) (matrix : Matrix) (s : State) → IsStart c matrix s → IsOwn s.component s.matrix s
start_own c matrix s is = rw is.is (record {
  component = refl;
  matrix_is = refl;
  own = λ t k f at. absurd (idle_threads (thread_count matrix) t k f at);
})

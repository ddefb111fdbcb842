-- Rows of tasks and of calls as they are opened.
use Rattle.std.proofs.Common.{◌≡◌, ℕ, zero, suc, ◌+◌, ◌-◌, ◌<◌, ◌≤◌, Bool, true, false, List, [], ◌∷◌, ◌++◌, All, length, map, replicate, take, Option, Some, None, IfSome, if◌then◌else◌, slice_get, slice_set, get_or, refl, sym, ◌∙◌, ap, subst, inl, inr, arith}
use Rattle.std.specs.Prelude.{unwrap_or, IsSomeAnd}
use Rattle.std.specs.Option.{option_map_or}
use Rattle.std.proofs.lemmas.List.{take_more, length-map, length-take-le, map-append}
use Rattle.std.proofs.lemmas.Option.{same_Some, slice_get_cases, slice_get_within}
use Rattle.lu_component.specs.declared.component.Op.{Op}
use Rattle.lu_component.specs.declared.instr.Instr.{Instr}
use Rattle.lu_component.specs.declared.instr.Instr.TheVariants.{Set, Compute, Load, Store, Cas, Lock, Unlock, Await, AwaitNot, Pick, Jump, JumpIfZero, Return}
use Rattle.lu_component.specs.Component.{Component, IsComponent, IsInstr, IsOp}
use Rattle.lu_test.specs.declared.matrix.Call.{Call}
use Rattle.lu_test.specs.Matrix.{IsCallOf, IsMatrix, IsOf, Matrix, calls_of}
use Rattle.lu_machine.specs.declared.program.Agenda.{Agenda}
use Rattle.lu_machine.specs.declared.program.Task.{Task}
use Rattle.lu_machine.specs.declared.thread.Frame.{Frame}
use Rattle.lu_test.specs.declared.schedule.Move.{Move}
use Rattle.lu_machine.specs.Layout.{IsSound}
use Rattle.lu_machine.specs.States.{State, instr_at, with_standing}
use Rattle.lu_machine.specs.Changes.{at_work, effect_of}
use Rattle.lu_machine.specs.Undoes.{with_shared}
use Rattle.lu_machine.specs.declared.event.Event.{Event}
use Rattle.lu_machine.specs.declared.undo.Shared.{Shared}
use Rattle.lu_machine.specs.declared.thread.Activity.{Activity}
use Rattle.lu_machine.specs.declared.thread.Activity.TheVariants.{Open}
use Rattle.lu_machine.specs.declared.thread.Change.{Change}
use Rattle.lu_machine.specs.declared.thread.Thread.{Thread}
use Rattle.lu_machine.specs.Steps.{Carries, IsFeasible, OneStep, activity_picks, choices, event_after, instr_picks, is_blocked, opened, thread_after}
use Rattle.lu_machine.specs.Tasks.{IsAwaitable, agenda_of, no_frame, no_task, task_row, rows_of, task_at, task_of, task_picks, wait_of, has_to_wait}
use Rattle.lu_machine.proofs.Moves.{all_at, calls_few}

-- the next place of a list that is filled from its front
filled : {A : Type 0} (xs : List A) (n : ℕ) (d x : A) → slice_set (xs ++ replicate (suc n) d) (length xs) x ≡ (xs ++ x ∷ []) ++ replicate n d
filled [] n d x = refl
filled (y ∷ xs) n d x = ap (λ (ys : List _). y ∷ ys) (filled xs n d x)

pub row_more : {A B : Type 0} (f : A → B) (n : ℕ) (d : B) (xs : List A) (i : ℕ) (x e : A) → i < length xs → i < n → x ≡ get_or xs i e → slice_set (map f (take i xs) ++ replicate (n - i) d) i (f x) ≡ map f (take (i + 1) xs) ++ replicate (n - (i + 1)) d
row_more f n d xs i x e below room read =
    let more : take (i + 1) xs ≡ take i xs ++ x ∷ [] = take_more xs i e below ∙ ap (λ b. take i xs ++ b ∷ []) (sym read) in
    let left : n - i ≡ suc (n - (i + 1)) = omega arith in
    let many : length (map f (take i xs)) ≡ i = length-map (take i xs) f ∙ length-take-le i xs (omega (arith, below)) in
    let set : slice_set (map f (take i xs) ++ replicate (suc (n - (i + 1))) d) i (f x) ≡ (map f (take i xs) ++ f x ∷ []) ++ replicate (n - (i + 1)) d =
    subst (λ j. slice_set (map f (take i xs) ++ replicate (suc (n - (i + 1))) d) j (f x) ≡ (map f (take i xs) ++ f x ∷ []) ++ replicate (n - (i + 1)) d) many (filled (map f (take i xs)) (n - (i + 1)) d (f x)) in
    rw (left, more, map-append) set

-- an instruction waits where it is blocked

blocked_waits : (s : State) (f : Frame) (instr : Instr) → option_map_or (has_to_wait s f) (wait_of instr) false ≡ is_blocked s f instr
blocked_waits s f (Set to v) = refl
blocked_waits s f (Compute by to a b) = refl
blocked_waits s f (Load to w i) = refl
blocked_waits s f (Store w i v) = refl
blocked_waits s f (Cas to w i a b) = refl
blocked_waits s f (Lock l) = refl
blocked_waits s f (Unlock l) = refl
blocked_waits s f (Await w i v) = refl
blocked_waits s f (AwaitNot w i v) = refl
blocked_waits s f (Pick to count) = refl
blocked_waits s f (Jump target) = refl
blocked_waits s f (JumpIfZero v target) = refl
blocked_waits s f (Return v) = refl

-- the task of an instruction has its picks, and no task has none
pub picks_at : (s : State) (f : Frame) (o : Option Instr) → task_picks s f (option_map_or task_of o no_task) ≡ option_map_or (instr_picks s f) o 0
picks_at s f None = refl
picks_at s f (Some instr) = rw (blocked_waits s f instr) refl

-- what stands in front of a filled list
pub in_front : {A B : Type 0} (f : A → B) (xs : List A) (ys : List B) (k : ℕ) (x : A) (d : B) → slice_get xs k ≡ Some x → get_or (map f xs ++ ys) k d ≡ f x
in_front f [] ys k x d is = cc
in_front f (z ∷ xs) ys zero x d is = ap f (same_Some z x is)
in_front f (z ∷ xs) ys (suc k) x d is = in_front f xs ys k x d is

-- an instruction of a component waits for what is there

named_awaitable : (s : State) (places : ℕ) (instr : Instr) → IsInstr (length s.component.arrays) (length s.component.locks) places instr → IfSome (wait_of instr) (IsAwaitable s)
named_awaitable s places (Set to v) is = tt
named_awaitable s places (Compute by to a b) is = tt
named_awaitable s places (Load to w i) is = tt
named_awaitable s places (Store w i v) is = tt
named_awaitable s places (Cas to w i a b) is = tt
named_awaitable s places (Lock l) is = is
named_awaitable s places (Unlock l) is = tt
named_awaitable s places (Await w i v) is = is
named_awaitable s places (AwaitNot w i v) is = is
named_awaitable s places (Pick to count) is = tt
named_awaitable s places (Jump target) is = tt
named_awaitable s places (JumpIfZero v target) is = tt
named_awaitable s places (Return v) is = tt

task_awaitable : (s : State) → IsComponent s.component → (op place : ℕ) (o : Option Op) → slice_get s.component.operations op ≡ o → (i : Option Instr) → instr_at s.component op place ≡ i → IfSome (option_map_or task_of i no_task).wait (IsAwaitable s)
unfolding instr_at
task_awaitable s is op place o at None e = tt
task_awaitable s is op place None at (Some instr) e = (let e' = rw at at e in cc)
task_awaitable s is op place (Some op') at (Some instr) e =
    let e' : slice_get op'.code place ≡ Some instr = rw at at e in
    let isop = all_at (IsOp (length s.component.arrays) (length s.component.locks)) s.component.operations op op' is.operations at in
    let isin = all_at (IsInstr (length s.component.arrays) (length s.component.locks) (length op'.code)) op'.code place instr isop.code.instrs e' in
    named_awaitable s (length op'.code) instr isin

map_at : {A B : Type 0} (f : A → B) (xs : List A) (k : ℕ) (x : A) (d : B) → slice_get xs k ≡ Some x → get_or (map f xs) k d ≡ f x
map_at f [] k x d is = cc
map_at f (z ∷ xs) zero x d is = ap f (same_Some z x is)
map_at f (z ∷ xs) (suc k) x d is = map_at f xs k x d is

pub row_get : {A B : Type 0} (f : A → B) (d : B) (xs : List A) (n i : ℕ) (e : B) → i < length xs + n → get_or (map f xs ++ replicate n d) i e ≡ option_map_or f (slice_get xs i) d
row_get f d [] zero i e within = absurd (omega (arith, within))
row_get f d [] (suc n) zero e within = refl
row_get f d [] (suc n) (suc i) e within = row_get f d [] n i e (omega (arith, within))
row_get f d (x ∷ xs) n zero e within = refl
row_get f d (x ∷ xs) n (suc i) e within = row_get f d xs n i e (omega (arith, within))

-- the task that stands at a place of an operation's row
pub task_is : (c : Component) (op place : ℕ) (row : List Task) (task d : Task) → op < length c.operations → place ≤ 64 → row ≡ get_or (rows_of c) op row → task ≡ get_or row place d → task ≡ option_map_or task_of (instr_at c op place) no_task
unfolding instr_at
task_is c op place row task d within inside row_is is =
    elim (slice_get_cases c.operations op).1 [
      | inl p ↦ by_op p.0 p.2
      | inr q ↦ absurd (omega (arith, within, q.0))
    ]
  where
    by_op : (o : Op) → slice_get c.operations op ≡ Some o → task ≡ option_map_or task_of (instr_at c op place) no_task
    by_op o at =
        let same : row ≡ task_row o.code = row_is ∙ map_at (λ (x : Op). task_row x.code) c.operations op o row at in
        let there : get_or (task_row o.code) place d ≡ option_map_or task_of (slice_get o.code place) no_task = row_get task_of no_task o.code (65 - length o.code) place d (omega (arith, inside)) in
        rw at (is ∙ ap (λ (x : List Task). get_or x place d) same ∙ there)

-- a call of a thread stands as it is opened among those of all, and its operation is one of the component's
pub record IsOpening (c : Component) (matrix : Matrix) (t k : ℕ) (frame : Frame) : Type 0 where
  pub call : Call
  pub at : slice_get (calls_of matrix t) k ≡ Some call
  pub is : frame ≡ opened call
  pub few : k < 8
  pub within : frame.op < length c.operations
  pub first : frame.place ≤ 64

call_at : (matrix : Matrix) (t k : ℕ) → k < length (calls_of matrix t) → (calls : List Call) × (call : Call) × (slice_get matrix.threads t ≡ Some calls) × (slice_get calls k ≡ Some call)
call_at matrix t k left = by_thread (slice_get matrix.threads t) refl left
  where
    by_thread : (o : Option (List Call)) → slice_get matrix.threads t ≡ o → k < length (unwrap_or o []) → (calls : List Call) × (call : Call) × (slice_get matrix.threads t ≡ Some calls) × (slice_get calls k ≡ Some call)
    by_thread None is below = absurd (omega (arith, below))
    by_thread (Some calls) is below =
        elim (slice_get_cases calls k).1 [
          | inl p ↦ (calls, p.0, is, p.2)
          | inr q ↦ absurd (omega (arith, below, q.0))
        ]

of_within : (c : Component) (call : Call) → IsCallOf c call → call.op < length c.operations
of_within c call of = by_op (slice_get c.operations call.op) refl of
  where
    by_op : (o : Option Op) → slice_get c.operations call.op ≡ o → IsSomeAnd o (λ op. length call.args ≡ op.args) → call.op < length c.operations
    by_op None is h = absurd h
    by_op (Some op) is h = slice_get_within c.operations call.op op is

pub opening_found : (c : Component) (matrix : Matrix) (t k i j : ℕ) (agendas : List Agenda) (agenda : Agenda) (frame d : Frame) → frame ≡ get_or agenda.frames j d → IsMatrix matrix → IsOf matrix c → k < length (calls_of matrix t) → i ≡ t → j ≡ k → agendas ≡ map agenda_of matrix.threads → agenda ≡ get_or agendas i agenda → IsOpening c matrix t k frame
opening_found c matrix t k i j agendas agenda frame d frame_is sound of left at_t at_k are agenda_is =
    let found = call_at matrix t k left in
    let calls = found.0 in
    let call = found.1 in
    let all : All (IsCallOf c) calls = all_at (λ calls. All (IsCallOf c) calls) matrix.threads t calls of.1 found.2 in
    let one : IsCallOf c call = all_at (IsCallOf c) calls k call all found.3 in
    let few : length (calls_of matrix t) ≤ 8 = calls_few matrix t sound.limits.each in
    let agenda_at : agenda ≡ agenda_of calls = agenda_is ∙ rw (are, at_t) (map_at agenda_of matrix.threads t calls agenda found.2) in
    let is : frame ≡ opened call = frame_is ∙ rw (at_k, agenda_at) (in_front opened calls (replicate (8 - length calls) no_frame) k call d found.3) in
    let within : call.op < length c.operations = of_within c call one in
    record {
      call = call;
      at = rw found.2 found.3;
      is = is;
      few = omega (arith, few, left);
      within = rw is within;
      first = rw is (omega arith);
    }

-- the task that is found for an operation is the one at its place, and waits for what is there
pub task_found : (s : State) (f : Frame) (i j : ℕ) (row : List Task) (rows : List (List Task)) (d : Task) → IsComponent s.component → rows ≡ rows_of s.component → f.op < length s.component.operations → f.place ≤ 64 → i ≡ f.op → j ≡ f.place → row ≡ get_or rows i row → (get_or row j d ≡ task_at s.component f) × IfSome (get_or row j d).wait (IsAwaitable s)
task_found s f i j row rows d sound are within inside at_op at_place row_is =
    let row_at : row ≡ get_or (rows_of s.component) f.op row = row_is ∙ rw (are, at_op) refl in
    let task : Task = get_or row j d in
    let is : task ≡ task_at s.component f = task_is s.component f.op f.place row task d within inside row_at (ap (λ n. get_or row n d) at_place) in
    (is, rw is (task_awaitable s sound f.op f.place (slice_get s.component.operations f.op) refl (instr_at s.component f.op f.place) refl))

-- an instruction of a component's code is sound

named_still : (arrays locks places : ℕ) (instr : Instr) → places ≤ 64 → IsInstr arrays locks places instr → IsInstr arrays locks 64 instr
named_still arrays locks places (Set to v) few is = is
named_still arrays locks places (Compute by to a b) few is = is
named_still arrays locks places (Load to w i) few is = is
named_still arrays locks places (Store w i v) few is = is
named_still arrays locks places (Cas to w i a b) few is = is
named_still arrays locks places (Lock l) few is = is
named_still arrays locks places (Unlock l) few is = is
named_still arrays locks places (Await w i v) few is = is
named_still arrays locks places (AwaitNot w i v) few is = is
named_still arrays locks places (Pick to count) few is = is
named_still arrays locks places (Jump target) few is = omega (arith, few, is)
named_still arrays locks places (JumpIfZero v target) few is = (is.0, omega (arith, few, is.1))
named_still arrays locks places (Return v) few is = is

instr_sound : (s : State) → IsComponent s.component → (f : Frame) (o : Option Op) → slice_get s.component.operations f.op ≡ o → (instr : Instr) → instr_at s.component f.op f.place ≡ Some instr → IsSound s f instr
unfolding instr_at
instr_sound s is f None none instr at = (let at' = rw none at at in cc)
instr_sound s is f (Some op) some instr at =
    let at' : slice_get op.code f.place ≡ Some instr = rw some at at in
    let isop = all_at (IsOp (length s.component.arrays) (length s.component.locks)) s.component.operations f.op op is.operations some in
    let isin = all_at (IsInstr (length s.component.arrays) (length s.component.locks) (length op.code)) op.code f.place instr isop.code.instrs at' in
    let within = slice_get_within op.code f.place instr at' in
    record {
      place = omega (arith, within, isop.code.few);
      named = named_still (length s.component.arrays) (length s.component.locks) (length op.code) instr isop.code.few isin;
    }

-- the instruction of the task at an operation's place can be carried out by a feasible move
pub record CanAct (s : State) (m : Move) (f : Frame) (instr : Instr) : Type 0 where
  pub at : instr_at s.component f.op f.place ≡ Some instr
  pub sound : IsSound s f instr
  pub feasible : m.pick < instr_picks s f instr

pub sound_at : (s : State) → IsComponent s.component → (f : Frame) → IfSome (instr_at s.component f.op f.place) (IsSound s f)
sound_at s sound f = by_instr (instr_at s.component f.op f.place) refl
  where
    by_instr : (o : Option Instr) → instr_at s.component f.op f.place ≡ o → IfSome o (IsSound s f)
    by_instr None none = tt
    by_instr (Some instr) at = instr_sound s sound f (slice_get s.component.operations f.op) refl instr at

pub can_act : (s : State) (m : Move) (f : Frame) (task : Task) → IfSome (instr_at s.component f.op f.place) (IsSound s f) → task ≡ task_at s.component f → m.pick < option_map_or (instr_picks s f) (instr_at s.component f.op f.place) 0 → CanAct s m f task.instr
can_act s m f task sound is able = by_instr (instr_at s.component f.op f.place) refl
  where
    by_instr : (o : Option Instr) → instr_at s.component f.op f.place ≡ o → CanAct s m f task.instr
    by_instr None none = (let able' = rw none at able in absurd (omega (arith, able')))
    by_instr (Some instr) at =
        let found : task ≡ task_of instr = is ∙ rw at refl in
        let same : task.instr ≡ instr = ap (λ (x : Task). x.instr) found in
        rw same (record { at = at; sound = rw at at sound; feasible = rw at at able })

-- a thread that stands so can carry out the task at its place
pub can_step : (s : State) (m : Move) (standing : Thread) (f : Frame) (task : Task) → slice_get s.threads m.thread ≡ Some standing → standing.activity ≡ Open f → IfSome (instr_at s.component f.op f.place) (IsSound s f) → task ≡ task_at s.component f → IsFeasible s m → CanAct s m f task.instr
can_step s m standing f task stands is sound task_is able =
    let at_thread : m.pick < activity_picks s m.thread standing.done standing.activity = rw stands at able in
    let at_frame : m.pick < activity_picks s m.thread standing.done (Open f) = rw is at at_thread in
    can_act s m f task sound task_is at_frame

unblocked : (blocked : Bool) (pick n : ℕ) → pick < (if blocked then 0 else n) → pick < n
unblocked true pick n h = absurd (omega (arith, h))
unblocked false pick n h = h

-- what it carries out so is a step
pub steps_so : (s new : State) (m : Move) (standing : Thread) (f : Frame) (instr : Instr) (change : Change) (shared : Shared) (event : Option Event) → slice_get s.threads m.thread ≡ Some standing → standing.activity ≡ Open f → CanAct s m f instr → Carries s m f instr (with_shared s shared) (effect_of f change)
    → ((g : Frame) → slice_get s.threads m.thread ≡ Some (at_work standing.done g) → new ≡ with_standing (with_shared s shared) m.thread (thread_after standing.done (effect_of g change))) → ((g : Frame) → event ≡ event_after m.thread standing.done (effect_of g change)) → OneStep s m new event
steps_so s new m standing f instr change shared event stands is can carries after shown =
    let here : slice_get s.threads m.thread ≡ Some (at_work standing.done f) = stands ∙ ap (λ (a : Activity). Some (let x : Thread = record { done = standing.done; activity = a } in x)) is in
    (standing, stands, rw is (instr, with_shared s shared, effect_of f change, can.at, unblocked (is_blocked s f instr) m.pick (choices instr) can.feasible, carries, after f here, shown f))

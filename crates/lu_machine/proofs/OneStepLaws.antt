-- One call or instruction leads to at most one state, and somewhere exactly where it is feasible.
use Rattle.std.proofs.Common.{◌≡◌, ◌≢◌, ℕ, ◌<◌, ◌==◌, nat_lt, Bool, true, false, not, if◌then◌else◌, List, [], ◌∷◌, Option, Some, None, is_some, MatchOption, MatchBool, slice_get, get_or, length, refl, sym, ◌∙◌, ap, arith}
use Rattle.std.proofs.lemmas.Bool.{lt-ltb}
use Rattle.std.proofs.lemmas.Option.{same_Some, slice_get-get_or, slice_get_within}
use Rattle.std.proofs.lemmas.Bool.Decides.{nat_tests}
use Rattle.std.specs.Option.{option_map_or}
use Rattle.lu_component.specs.declared.instr.Instr.{Instr}
use Rattle.lu_component.specs.declared.instr.Instr.TheVariants.{Set, Compute, Load, Store, Cas, Lock, Unlock, Await, AwaitNot, Pick, Jump, JumpIfZero, Return}
use Rattle.lu_test.specs.declared.matrix.Call.{Call}
use Rattle.lu_test.specs.declared.schedule.Move.{Move}
use Rattle.lu_test.specs.Matrix.{calls_of}
use Rattle.lu_machine.specs.declared.event.Event.{Event}
use Rattle.lu_machine.specs.declared.event.Event.TheVariants.{Call as Called}
use Rattle.lu_machine.specs.declared.event.Outcome.TheVariants.{Ret, Trap}
use Rattle.lu_machine.specs.declared.thread.Frame.{Frame}
use Rattle.lu_machine.specs.declared.thread.Activity.{Activity}
use Rattle.lu_machine.specs.declared.thread.Activity.TheVariants.{Idle, Open}
use Rattle.lu_machine.specs.Effects.{Effect}
use Rattle.lu_machine.specs.Effects.Effect.{Ends}
use Rattle.lu_machine.specs.declared.thread.Thread.{Thread}
use Rattle.lu_machine.specs.Effects.{value_of, computed, onward, onward_at, onward_with}
use Rattle.lu_machine.specs.States.{State, cell_at, instr_at, call_count, value_at, owner_of, with_cell, with_owner, with_standing}
use Rattle.lu_machine.specs.Steps.{Carries, ByActivity, OneStep, IsFeasible, activity_picks, choices, event_after, instr_picks, is_blocked, opened, owns, thread_after}

match_same : {A : Type 0} (o : Option ℕ) (x : A) (g : ℕ → A) (e f : A) → MatchOption o (e ≡ x) (λ p. e ≡ g p) → MatchOption o (f ≡ x) (λ p. f ≡ g p) → e ≡ f
match_same None x g e f h k = h ∙ sym k
match_same (Some p) x g e f h k = h ∙ sym k

-- of an equation and a condition only the equation counts
match_if_same : {A : Type 0} (o : Option ℕ) (P : ℕ → Type 0) (x y e f : A) → MatchOption o (e ≡ x) (λ p. P p × (e ≡ y)) → MatchOption o (f ≡ x) (λ p. P p × (f ≡ y)) → e ≡ f
match_if_same None P x y e f h k = h ∙ sym k
match_if_same (Some p) P x y e f h k = h.1 ∙ sym k.1

pair_same : {A B : Type 0} (x a b : A) (y e f : B) → (a ≡ x) × (e ≡ y) → (b ≡ x) × (f ≡ y) → (a ≡ b) × (e ≡ f)
pair_same x a b y e f h k = (h.0 ∙ sym k.0, h.1 ∙ sym k.1)

match_bool_same : {A B : Type 0} (t : Bool) (x z a b : A) (y w e f : B) → MatchBool t ((a ≡ x) × (e ≡ y)) ((a ≡ z) × (e ≡ w)) → MatchBool t ((b ≡ x) × (f ≡ y)) ((b ≡ z) × (f ≡ w)) → (a ≡ b) × (e ≡ f)
match_bool_same true x z a b y w e f h k = pair_same x a b y e f h k
match_bool_same false x z a b y w e f h k = pair_same z a b w e f h k

store_same : (s : State) (f : Frame) (n : ℕ) (o : Option ℕ) (a b : State) (d e : Effect) → MatchOption o ((a ≡ s) × (d ≡ Ends Trap)) (λ p. (a ≡ with_cell s p n) × (d ≡ onward f)) → MatchOption o ((b ≡ s) × (e ≡ Ends Trap)) (λ p. (b ≡ with_cell s p n) × (e ≡ onward f)) → (a ≡ b) × (d ≡ e)
store_same s f n None a b d e h k = pair_same s a b (Ends Trap) d e h k
store_same s f n (Some p) a b d e h k = pair_same (with_cell s p n) a b (onward f) d e h k

Swaps : State → Frame → ℕ → ℕ → ℕ → Option ℕ → State → Effect → Type 0
Swaps s f to expected desired o new effect =
    MatchOption o ((new ≡ s) × (effect ≡ Ends Trap))
    (λ p. MatchBool (value_at s p == expected)
    ((new ≡ with_cell s p desired) × (effect ≡ onward_with f to 1))
    ((new ≡ s) × (effect ≡ onward_with f to 0)))

cas_same : (s : State) (f : Frame) (to expected desired : ℕ) (o : Option ℕ) (a b : State) (d e : Effect) → Swaps s f to expected desired o a d → Swaps s f to expected desired o b e → (a ≡ b) × (d ≡ e)
unfolding Swaps
cas_same s f to expected desired None a b d e h k = pair_same s a b (Ends Trap) d e h k
cas_same s f to expected desired (Some p) a b d e h k =
    match_bool_same (value_at s p == expected) (with_cell s p desired) s a b (onward_with f to 1) (onward_with f to 0) d e h k

carries_same : (s : State) (m : Move) (f : Frame) (instr : Instr) (a b : State) (d e : Effect) → Carries s m f instr a d → Carries s m f instr b e → (a ≡ b) × (d ≡ e)
unfolding Swaps
carries_same s m f (Set to v) a b d e h k = pair_same _ a b _ d e h k
carries_same s m f (Compute by to x y) a b d e h k = pair_same _ a b _ d e h k
carries_same s m f (Load to w i) a b d e h k =
    (h.0 ∙ sym k.0, match_same (cell_at s f w i) (Ends Trap) (λ p. onward_with f to (value_at s p)) d e h.1 k.1)
carries_same s m f (Store w i v) a b d e h k =
    store_same s f (value_of f v) (cell_at s f w i) a b d e h k
carries_same s m f (Cas to w i x y) a b d e h k =
    cas_same s f to (value_of f x) (value_of f y) (cell_at s f w i) a b d e h k
carries_same s m f (Lock l) a b d e h k = (h.1 ∙ sym k.1, h.2 ∙ sym k.2)
carries_same s m f (Unlock l) a b d e h k =
    match_bool_same (owns s m.thread l) (with_owner s l None) s a b (onward f) (Ends Trap) d e h k
carries_same s m f (Await w i v) a b d e h k =
    (h.0 ∙ sym k.0, match_if_same (cell_at s f w i) (λ p. value_at s p ≡ value_of f v) (Ends Trap) (onward f) d e h.1 k.1)
carries_same s m f (AwaitNot w i v) a b d e h k =
    (h.0 ∙ sym k.0, match_if_same (cell_at s f w i) (λ p. value_at s p ≢ value_of f v) (Ends Trap) (onward f) d e h.1 k.1)
carries_same s m f (Pick to count) a b d e h k = pair_same _ a b _ d e h k
carries_same s m f (Jump target) a b d e h k = pair_same _ a b _ d e h k
carries_same s m f (JumpIfZero v target) a b d e h k = pair_same _ a b _ d e h k
carries_same s m f (Return v) a b d e h k = pair_same _ a b _ d e h k

activity_same : (s : State) (m : Move) (done : ℕ) (activity : Activity) (a b : State) (e f : Option Event) → ByActivity s m done activity a e → ByActivity s m done activity b f → (a ≡ b) × (e ≡ f)
activity_same s m done Idle a b e f h k =
    let same : h.0 ≡ k.0 = same_Some h.0 k.0 (sym h.1 ∙ k.1) in
    let after : Call → State = λ call. with_standing s m.thread (record { done = done; activity = Open (opened call) }) in
    (h.3 ∙ ap after same ∙ sym k.3, h.4 ∙ sym k.4)
activity_same s m done (Open frame) a b e f h k =
    let same : k.0 ≡ h.0 = same_Some k.0 h.0 (sym k.3 ∙ h.3) in
    let by : Carries s m frame h.0 k.1 k.2 = rw same at k.5 in
    let one = carries_same s m frame h.0 h.1 k.1 h.2 k.2 h.5 by in
    let after : State → Effect → State = λ mid effect. with_standing mid m.thread (thread_after done effect) in (
      h.6 ∙ ap (λ (mid : State). after mid h.2) one.0 ∙ ap (after k.1) one.1 ∙ sym k.6,
      h.7 ∙ ap (event_after m.thread done) one.1 ∙ sym k.7,
    )

-- one call or instruction leads to at most one state, with one event or none
pub one_same : (s : State) (m : Move) (a b : State) (e f : Option Event) → OneStep s m a e → OneStep s m b f → (a ≡ b) × (e ≡ f)
one_same s m a b e f h k =
    let same : k.0 ≡ h.0 = same_Some k.0 h.0 (sym k.1 ∙ h.1) in
    let by : ByActivity s m h.0.done h.0.activity b f = rw same at k.2 in
    activity_same s m h.0.done h.0.activity a b e f h.2 by

await_free : (o : Option ℕ) (value : ℕ → ℕ) (v : ℕ) (x y e : Effect) → MatchOption o (e ≡ x) (λ p. (value p ≡ v) × (e ≡ y)) → option_map_or (λ p. not (value p == v)) o false ≡ false
await_free None value v x y e h = refl
await_free (Some p) value v x y e h = let is : value p ≡ v = h.0 in grind (arith, nat_tests)

await_not_free : (o : Option ℕ) (value : ℕ → ℕ) (v : ℕ) (x y e : Effect) → MatchOption o (e ≡ x) (λ p. (value p ≢ v) × (e ≡ y)) → option_map_or (λ p. value p == v) o false ≡ false
await_not_free None value v x y e h = refl
await_not_free (Some p) value v x y e h = let is : value p ≢ v = h.0 in grind (arith, nat_tests)

-- an instruction that is carried out is not blocked
carries_free : (s : State) (m : Move) (f : Frame) (instr : Instr) (new : State) (e : Effect) → Carries s m f instr new e → is_blocked s f instr ≡ false
carries_free s m f (Set to v) new e h = refl
carries_free s m f (Compute by to x y) new e h = refl
carries_free s m f (Load to w i) new e h = refl
carries_free s m f (Store w i v) new e h = refl
carries_free s m f (Cas to w i x y) new e h = refl
carries_free s m f (Lock l) new e h = ap is_some h.0
carries_free s m f (Unlock l) new e h = refl
carries_free s m f (Await w i v) new e h =
    await_free (cell_at s f w i) (value_at s) (value_of f v) (Ends Trap) (onward f) e h.1
carries_free s m f (AwaitNot w i v) new e h =
    await_not_free (cell_at s f w i) (value_at s) (value_of f v) (Ends Trap) (onward f) e h.1
carries_free s m f (Pick to count) new e h = refl
carries_free s m f (Jump target) new e h = refl
carries_free s m f (JumpIfZero v target) new e h = refl
carries_free s m f (Return v) new e h = refl

activity_feasible : (s : State) (m : Move) (done : ℕ) (activity : Activity) (new : State) (e : Option Event) → ByActivity s m done activity new e → m.pick < activity_picks s m.thread done activity
activity_feasible s m done Idle new e h =
    let within : done < call_count s m.thread = slice_get_within (calls_of s.matrix m.thread) done h.0 h.1 in
    rw (lt-ltb done (call_count s m.thread) within) (omega (arith, h.2))
activity_feasible s m done (Open f) new e h = rw (h.3, carries_free s m f h.0 h.1 h.2 h.5) h.4

-- only a feasible move makes a call or carries out an instruction
pub one_feasible : (s : State) (m : Move) (new : State) (event : Option Event) → OneStep s m new event → IsFeasible s m
one_feasible s m new event h = rw h.1 (activity_feasible s m h.0.done h.0.activity new event h.2)

-- some state and effect
Outcome : State → Move → Frame → Instr → Type 0
Outcome s m f instr = (new : State) × (effect : Effect) × Carries s m f instr new effect

match_exists : {A : Type 0} (o : Option ℕ) (x : A) (g : ℕ → A) → (e : A) × MatchOption o (e ≡ x) (λ p. e ≡ g p)
match_exists None x g = (x, refl)
match_exists (Some p) x g = (g p, refl)

store_exists : (s : State) (f : Frame) (n : ℕ) (o : Option ℕ) → (new : State) × (e : Effect) × MatchOption o ((new ≡ s) × (e ≡ Ends Trap)) (λ p. (new ≡ with_cell s p n) × (e ≡ onward f))
store_exists s f n None = (s, Ends Trap, (refl, refl))
store_exists s f n (Some p) = (with_cell s p n, onward f, (refl, refl))

match_bool_exists : {A B : Type 0} (t : Bool) (x z : A) (y w : B) → (a : A) × (e : B) × MatchBool t ((a ≡ x) × (e ≡ y)) ((a ≡ z) × (e ≡ w))
match_bool_exists true x z y w = (x, y, (refl, refl))
match_bool_exists false x z y w = (z, w, (refl, refl))

cas_exists : (s : State) (f : Frame) (to expected desired : ℕ) (o : Option ℕ) → (new : State) × (e : Effect) × Swaps s f to expected desired o new e
unfolding Swaps
cas_exists s f to expected desired None = (s, Ends Trap, (refl, refl))
cas_exists s f to expected desired (Some p) =
    match_bool_exists (value_at s p == expected) (with_cell s p desired) s (onward_with f to 1) (onward_with f to 0)

await_exists : (o : Option ℕ) (value : ℕ → ℕ) (v : ℕ) (x y : Effect) → option_map_or (λ p. not (value p == v)) o false ≡ false → (e : Effect) × MatchOption o (e ≡ x) (λ p. (value p ≡ v) × (e ≡ y))
await_exists None value v x y h = (x, refl)
await_exists (Some p) value v x y h = (y, (equal (value p) v h, refl))
  where
    equal : (n v : ℕ) → not (n == v) ≡ false → n ≡ v
    equal n v h = grind (arith, nat_tests)

await_not_exists : (o : Option ℕ) (value : ℕ → ℕ) (v : ℕ) (x y : Effect) → option_map_or (λ p. value p == v) o false ≡ false → (e : Effect) × MatchOption o (e ≡ x) (λ p. (value p ≢ v) × (e ≡ y))
await_not_exists None value v x y h = (x, refl)
await_not_exists (Some p) value v x y h = (y, (apart (value p) v h, refl))
  where
    apart : (n v : ℕ) → (n == v) ≡ false → n ≢ v
    apart n v h = λ is. grind (arith, nat_tests)

is_none : (o : Option ℕ) → is_some o ≡ false → o ≡ None
is_none None h = refl
is_none (Some x) h = cc

-- an instruction that is not blocked is carried out
carries_exists : (s : State) (m : Move) (f : Frame) (instr : Instr) → is_blocked s f instr ≡ false → Outcome s m f instr
unfolding Outcome Swaps
carries_exists s m f (Set to v) h = (s, onward_with f to (value_of f v), (refl, refl))
carries_exists s m f (Compute by to x y) h = (s, onward_with f to (computed by (value_of f x) (value_of f y)), (refl, refl))
carries_exists s m f (Load to w i) h =
    let e = match_exists (cell_at s f w i) (Ends Trap) (λ p. onward_with f to (value_at s p)) in
    (s, e.0, (refl, e.1))
carries_exists s m f (Store w i v) h = store_exists s f (value_of f v) (cell_at s f w i)
carries_exists s m f (Cas to w i x y) h =
    cas_exists s f to (value_of f x) (value_of f y) (cell_at s f w i)
carries_exists s m f (Lock l) h =
    (with_owner s l (Some m.thread), onward f, (is_none (owner_of s l) h, refl, refl))
carries_exists s m f (Unlock l) h = match_bool_exists (owns s m.thread l) (with_owner s l None) s (onward f) (Ends Trap)
carries_exists s m f (Await w i v) h =
    let e = await_exists (cell_at s f w i) (value_at s) (value_of f v) (Ends Trap) (onward f) h in
    (s, e.0, (refl, e.1))
carries_exists s m f (AwaitNot w i v) h =
    let e = await_not_exists (cell_at s f w i) (value_at s) (value_of f v) (Ends Trap) (onward f) h in
    (s, e.0, (refl, e.1))
carries_exists s m f (Pick to count) h = (s, onward_with f to m.pick, (refl, refl))
carries_exists s m f (Jump target) h = (s, onward_at f target, (refl, refl))
carries_exists s m f (JumpIfZero v target) h =
    (s, (if value_of f v == 0 then onward_at f target else onward f), (refl, refl))
carries_exists s m f (Return v) h = (s, Ends (Ret (value_of f v)), (refl, refl))

-- of some picks at an instruction, it is not blocked and the pick is one of its choices
picks_free : (blocked : Bool) (many pick : ℕ) → pick < (if blocked then 0 else many) → (blocked ≡ false) × (pick < many)
picks_free true many pick h = absurd (omega arith)
picks_free false many pick h = (refl, h)

instr_exists : (s : State) (m : Move) (done : ℕ) (f : Frame) (o : Option Instr) → instr_at s.component f.op f.place ≡ o → m.pick < option_map_or (instr_picks s f) o 0 → (new : State) × (event : Option Event) × ByActivity s m done (Open f) new event
unfolding Outcome
instr_exists s m done f None at h = absurd (omega arith)
instr_exists s m done f (Some instr) at h =
    let free = picks_free (is_blocked s f instr) (choices instr) m.pick h in
    let by = carries_exists s m f instr free.0 in
    (with_standing by.0 m.thread (thread_after done by.1), event_after m.thread done by.1, (instr, by.0, by.1, at, free.1, by.2, refl, refl))

activity_exists : (s : State) (m : Move) (done : ℕ) (activity : Activity) → m.pick < activity_picks s m.thread done activity → (new : State) × (event : Option Event) × ByActivity s m done activity new event
activity_exists s m done Idle h =
    let p = some_left done (call_count s m.thread) m.pick h in
    let at = some_call (calls_of s.matrix m.thread) done p.0 in
    (with_standing s m.thread (record { done = done; activity = Open (opened at.0) }), Some (Called m.thread done), (at.0, at.1, p.1, refl, refl))
  where
    some_left : (done many pick : ℕ) → pick < (if nat_lt done many then 1 else 0) → (done < many) × (pick ≡ 0)
    some_left done many pick h = grind (arith, nat_tests)

    some_call : (calls : List Call) (k : ℕ) → k < length calls → (call : Call) × (slice_get calls k ≡ Some call)
    some_call [] k h = absurd (omega arith)
    some_call (call ∷ calls) k h = let at = slice_get-get_or (call ∷ calls) k call h in (get_or (call ∷ calls) k call, at)
activity_exists s m done (Open f) h = instr_exists s m done f (instr_at s.component f.op f.place) refl h

thread_exists : (s : State) (m : Move) (o : Option Thread) → slice_get s.threads m.thread ≡ o → m.pick < option_map_or (λ thread. activity_picks s m.thread thread.done thread.activity) o 0 → (new : State) × (event : Option Event) × OneStep s m new event
thread_exists s m None stands h = absurd (omega arith)
thread_exists s m (Some thread) stands h =
    let a = activity_exists s m thread.done thread.activity h in
    (a.0, a.1, (thread, stands, a.2))

-- a feasible move makes a call or carries out an instruction
pub feasible_one : (s : State) (m : Move) → IsFeasible s m → (new : State) × (event : Option Event) × OneStep s m new event
feasible_one s m h = thread_exists s m (slice_get s.threads m.thread) refl h

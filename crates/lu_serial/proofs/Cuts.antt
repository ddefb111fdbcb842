-- A serial schedule over the matrix that has just the calls made in it.
use Rattle.std.proofs.Common.{arith, ◌≡◌, ◌≢◌, ◌<◌, ◌≤◌, ◌+◌, ◌-◌, ◌==◌, Bool, true, false, if◌then◌else◌, ℕ, zero, suc, List, [], ◌∷◌, length, take, map, replicate, slice_get, Option, Some, None, MatchOption, MatchBool, refl, sym, ◌∙◌, ap, subst, inl, inr}
use Rattle.std.specs.List.{AllZip}
use Rattle.std.specs.Option.{option_map_or}
use Rattle.std.proofs.lemmas.Bool.{le-ltb}
use Rattle.std.proofs.lemmas.List.{length-replicate}
use Rattle.lu_component.specs.declared.instr.Instr.{Instr}
use Rattle.lu_component.specs.declared.instr.Instr.TheVariants.{Set, Compute, Load, Store, Cas, Lock, Unlock, Await, AwaitNot, Pick, Jump, JumpIfZero, Return}
use Rattle.lu_test.specs.declared.matrix.Call.{Call as ACall}
use Rattle.lu_test.specs.declared.schedule.Move.{Move}
use Rattle.lu_test.specs.Matrix.{Matrix, calls_of, cut, first_calls, row_of}
use Rattle.lu_machine.specs.declared.event.Event.{Event}
use Rattle.lu_machine.specs.declared.event.Outcome.TheVariants.{Trap}
use Rattle.lu_machine.specs.declared.thread.Activity.{Activity}
use Rattle.lu_machine.specs.declared.thread.Activity.TheVariants.{Idle, Open}
use Rattle.lu_machine.specs.declared.thread.Frame.{Frame}
use Rattle.lu_machine.specs.declared.thread.Thread.{Thread}
use Rattle.lu_machine.specs.Effects.{Effect, value_of, onward, onward_with}
use Rattle.lu_machine.specs.Effects.Effect.{Ends}
use Rattle.lu_machine.specs.States.{State, call_count, cell_at, instr_at, value_at, with_cell, with_owner}
use Rattle.lu_machine.specs.Steps.{ByActivity, Carries, OneStep, RunsOn, Step, activity_is_local, activity_picks, choices, instr_picks, is_at_local, is_blocked, more_local, owns, picks_of}
use Rattle.lu_machine.specs.Ends.{IsComplete, IsFinished, IsStuck}
use Rattle.lu_machine.specs.Runs.{Leads}
use Rattle.lu_machine.proofs.Keeping.{step_keeps_threads}
use Rattle.lu_machine.proofs.Running.{local_once}
use Rattle.lu_serial.specs.Serial.{HasOpen}
use Rattle.lu_serial.proofs.Opening.{complete_not_open, same_or_not}
use Rattle.lu_serial.proofs.Single.{AtMostOne, one_along}
use Rattle.lu_serial.specs.Cuts.{AreLengths}
use Rattle.lu_serial.specs.Whole.{IsQuiet, made, made_calls}
use Rattle.lu_serial.proofs.Grounds.{Ground, start_on}
use Rattle.lu_serial.proofs.Moves.{Stepped, step_stepped, the_thread, idle_or_not, done_in, done_of}
use Rattle.lu_serial.proofs.Serially.{LeadsSerially, leads_count, leads_matrix, serially_leads, serially_to}
use Rattle.lu_serial.proofs.Counts.{made_at, made_busy, made_idle, made_in, made_of, made_others}

-- ---- the same state over another matrix

abbrev pub with_matrix : State → Matrix → State
with_matrix s matrix = record s { matrix = matrix }

module _ (matrix : Matrix) where
  same_with : (s new : State) → new ≡ s → with_matrix new matrix ≡ with_matrix s matrix
  same_with s new e = ap (λ x. with_matrix x matrix) e

  store_with : (s new : State) (n : ℕ) (o : Option ℕ) (e x y : Effect) → MatchOption o ((new ≡ s) × (e ≡ x)) (λ p. (new ≡ with_cell s p n) × (e ≡ y)) → MatchOption o ((with_matrix new matrix ≡ with_matrix s matrix) × (e ≡ x)) (λ p. (with_matrix new matrix ≡ with_cell (with_matrix s matrix) p n) × (e ≡ y))
  store_with s new n None e x y h = (same_with s new h.0, h.1)
  store_with s new n (Some p) e x y h = (same_with (with_cell s p n) new h.0, h.1)

  test_with : (s new one : State) (t : Bool) (e x y : Effect) → MatchBool t ((new ≡ one) × (e ≡ x)) ((new ≡ s) × (e ≡ y)) → MatchBool t ((with_matrix new matrix ≡ with_matrix one matrix) × (e ≡ x)) ((with_matrix new matrix ≡ with_matrix s matrix) × (e ≡ y))
  test_with s new one true e x y h = (same_with one new h.0, h.1)
  test_with s new one false e x y h = (same_with s new h.0, h.1)

  cas_with : (s new : State) (f : Frame) (to v n : ℕ) (o : Option ℕ) (e : Effect) → MatchOption o ((new ≡ s) × (e ≡ Ends Trap)) (λ p. MatchBool (value_at s p == v) ((new ≡ with_cell s p n) × (e ≡ onward_with f to 1)) ((new ≡ s) × (e ≡ onward_with f to 0))) → MatchOption o ((with_matrix new matrix ≡ with_matrix s matrix) × (e ≡ Ends Trap)) (λ p. MatchBool (value_at s p == v) ((with_matrix new matrix ≡ with_cell (with_matrix s matrix) p n) × (e ≡ onward_with f to 1)) ((with_matrix new matrix ≡ with_matrix s matrix) × (e ≡ onward_with f to 0)))
  cas_with s new f to v n None e h = (same_with s new h.0, h.1)
  cas_with s new f to v n (Some p) e h = test_with s new (with_cell s p n) (value_at s p == v) e (onward_with f to 1) (onward_with f to 0) h

  -- no instruction looks at the matrix
  carries_with : (s : State) (m : Move) (f : Frame) (instr : Instr) (new : State) (e : Effect) → Carries s m f instr new e → Carries (with_matrix s matrix) m f instr (with_matrix new matrix) e
  carries_with s m f (Set to v) new e h = (same_with s new h.0, h.1)
  carries_with s m f (Compute by to x y) new e h = (same_with s new h.0, h.1)
  carries_with s m f (Load to w i) new e h = (same_with s new h.0, h.1)
  carries_with s m f (Store w i v) new e h = store_with s new (value_of f v) (cell_at s f w i) e (Ends Trap) (onward f) h
  carries_with s m f (Cas to w i x y) new e h = cas_with s new f to (value_of f x) (value_of f y) (cell_at s f w i) e h
  carries_with s m f (Lock l) new e h = (h.0, same_with (with_owner s l (Some m.thread)) new h.1, h.2)
  carries_with s m f (Unlock l) new e h = test_with s new (with_owner s l None) (owns s m.thread l) e (onward f) (Ends Trap) h
  carries_with s m f (Await w i v) new e h = (same_with s new h.0, h.1)
  carries_with s m f (AwaitNot w i v) new e h = (same_with s new h.0, h.1)
  carries_with s m f (Pick to count) new e h = (same_with s new h.0, h.1)
  carries_with s m f (Jump target) new e h = (same_with s new h.0, h.1)
  carries_with s m f (JumpIfZero v target) new e h = (same_with s new h.0, h.1)
  carries_with s m f (Return v) new e h = (same_with s new h.0, h.1)

  -- the next call of thread t is the same
  abbrev pub HasSameCall : State → ℕ → ℕ → Type 0
  HasSameCall s t done = slice_get (calls_of matrix t) done ≡ slice_get (calls_of s.matrix t) done

  activity_with : (s : State) (m : Move) (done : ℕ) (activity : Activity) (new : State) (e : Option Event) → (activity ≡ Idle → HasSameCall s m.thread done) → ByActivity s m done activity new e → ByActivity (with_matrix s matrix) m done activity (with_matrix new matrix) e
  activity_with s m done Idle new e same h = (h.0, same refl ∙ h.1, h.2, ap (λ x. with_matrix x matrix) h.3, h.4)
  activity_with s m done (Open f) new e same h =
      (h.0, with_matrix h.1 matrix, h.2, h.3, h.4, carries_with s m f h.0 h.1 h.2 h.5, ap (λ x. with_matrix x matrix) h.6, h.7)

  one_with : (s : State) (m : Move) (new : State) (e : Option Event) → ((a : Thread) → slice_get s.threads m.thread ≡ Some a → a.activity ≡ Idle → HasSameCall s m.thread a.done) → OneStep s m new e → OneStep (with_matrix s matrix) m (with_matrix new matrix) e
  one_with s m new e same h = (h.0, h.1, activity_with s m h.0.done h.0.activity new e (same h.0 h.1) h.2)

  activity_local_with : (s : State) (a : Activity) → activity_is_local (with_matrix s matrix) a ≡ activity_is_local s a
  activity_local_with s Idle = refl
  activity_local_with s (Open f) = refl

  local_with : (s : State) (t : ℕ) → is_at_local (with_matrix s matrix) t ≡ is_at_local s t
  local_with s t = by_thread (slice_get s.threads t)
    where
      by_thread : (o : Option Thread) → option_map_or (λ thread. activity_is_local (with_matrix s matrix) thread.activity) o false ≡ option_map_or (λ thread. activity_is_local s thread.activity) o false
      by_thread None = refl
      by_thread (Some a) = activity_local_with s a.activity

  more_with : (s : State) (t : ℕ) → more_local (with_matrix s matrix) t ≡ more_local s t
  more_with s t = ap (λ b. s.component.local - (if b then 1 else 0)) (local_with s t)

  -- nor does a thread that runs on
  runs_with : (n : ℕ) (s : State) (t : ℕ) (end : State) → RunsOn n s t end → RunsOn n (with_matrix s matrix) t (with_matrix end matrix)
  runs_with zero s t end h = ap (λ x. with_matrix x matrix) h
  runs_with (suc n) s t end h =
      subst (λ b. MatchBool b ((next : State) × OneStep (with_matrix s matrix) (record { thread = t; pick = 0 }) next None × RunsOn n next t (with_matrix end matrix)) (with_matrix end matrix ≡ with_matrix s matrix)) (sym (local_with s t))
      (by_test (λ x. runs_with n x t end) (is_at_local s t) refl h)
    where
      by_test : ((x : State) → RunsOn n x t end → RunsOn n (with_matrix x matrix) t (with_matrix end matrix)) → (test : Bool) → is_at_local s t ≡ test → MatchBool test ((next : State) × OneStep s (record { thread = t; pick = 0 }) next None × RunsOn n next t end) (end ≡ s) → MatchBool test ((next : State) × OneStep (with_matrix s matrix) (record { thread = t; pick = 0 }) next None × RunsOn n next t (with_matrix end matrix)) (with_matrix end matrix ≡ with_matrix s matrix)
      by_test go true is h =
          let once = local_once s t is in
          let never : (a : Thread) → slice_get s.threads t ≡ Some a → a.activity ≡ Idle → HasSameCall s t a.done = (λ a stands idle.
          (let one : once.standing ≡ a = the_thread s t once.standing a once.stands stands in
          let f : Open once.before ≡ Idle = sym once.is_open ∙ (ap (λ (x : Thread). x.activity) one ∙ idle) in
          absurd (cc))) in
          (with_matrix h.0 matrix, one_with s (record { thread = t; pick = 0 }) h.0 None never h.1, go h.0 h.2)
      by_test go false is h = ap (λ x. with_matrix x matrix) h

  pub step_with : (s : State) (m : Move) (new : State) (e : Option Event) → ((a : Thread) → slice_get s.threads m.thread ≡ Some a → a.activity ≡ Idle → HasSameCall s m.thread a.done) → Step s m new e → Step (with_matrix s matrix) m (with_matrix new matrix) e
  step_with s m new e same h = (
    with_matrix h.0 matrix,
    one_with s m h.0 e same h.1,
    subst (λ n. RunsOn n (with_matrix h.0 matrix) m.thread (with_matrix new matrix)) (sym (more_with s m.thread)) (runs_with (more_local s m.thread) h.0 m.thread new h.2),
  )

  blocked_with : (s : State) (f : Frame) (instr : Instr) → is_blocked (with_matrix s matrix) f instr ≡ is_blocked s f instr
  blocked_with s f (Set to v) = refl
  blocked_with s f (Compute by to x y) = refl
  blocked_with s f (Load to w i) = refl
  blocked_with s f (Store w i v) = refl
  blocked_with s f (Cas to w i x y) = refl
  blocked_with s f (Lock l) = refl
  blocked_with s f (Unlock l) = refl
  blocked_with s f (Await w i v) = refl
  blocked_with s f (AwaitNot w i v) = refl
  blocked_with s f (Pick to count) = refl
  blocked_with s f (Jump target) = refl
  blocked_with s f (JumpIfZero v target) = refl
  blocked_with s f (Return v) = refl

  -- an open operation has as many picks
  open_picks_with : (s : State) (t done : ℕ) (f : Frame) → activity_picks (with_matrix s matrix) t done (Open f) ≡ activity_picks s t done (Open f)
  open_picks_with s t done f = by_instr (instr_at s.component f.op f.place)
    where
      by_instr : (o : Option Instr) → option_map_or (instr_picks (with_matrix s matrix) f) o 0 ≡ option_map_or (instr_picks s f) o 0
      by_instr None = refl
      by_instr (Some instr) = ap (λ b. if b then 0 else choices instr) (blocked_with s f instr)

  pub picks_with : (s : State) (t : ℕ) (a : Thread) (activity : Activity) → slice_get s.threads t ≡ Some a → a.activity ≡ activity → a.activity ≢ Idle → picks_of (with_matrix s matrix) t ≡ picks_of s t
  picks_with s t a Idle stands is busy = absurd (busy is)
  picks_with s t a (Open f) stands is busy = rw (stands, is) (open_picks_with s t a.done f)

-- ---- the calls made

-- a step is one of an operation whose call is made after it
step_made : (s : State) (m : Move) (new : State) (e : Option Event) → (by : Stepped s m new e) → made_of new m.thread ≡ by.before.done + 1
step_made s m new e by =
    let at = made_at new m.thread by.after by.is in
    elim by.kind as (λ _. made_of new m.thread ≡ by.before.done + 1) [
      | inl called ↦ (let busy = made_busy by.after called.1 in let same = called.2 in omega (arith, at, busy, same))
      | inr other ↦ elim other as (λ _. made_of new m.thread ≡ by.before.done + 1) [
        | inl went ↦ (let busy = made_busy by.after went.1 in let same = went.2 in omega (arith, at, busy, same))
        | inr closed ↦ (let idle = made_idle by.after closed.1 in let same = closed.2 in omega (arith, at, idle, same))
      ]
    ]

made_before : (a : Thread) → (a.done ≤ made a) × (made a ≤ a.done + 1)
made_before a = elim (idle_or_not a.activity) as (λ _. (a.done ≤ made a) × (made a ≤ a.done + 1)) [
  | inl idle ↦ (let is = made_idle a idle in (omega (arith, is), omega (arith, is)))
  | inr busy ↦ (let is = made_busy a busy in (omega (arith, is), omega (arith, is)))
]

made_grows : (s : State) (m : Move) (new : State) (e : Option Event) → (by : Stepped s m new e) → (t : ℕ) → made_of s t ≤ made_of new t
made_grows s m new e by t =
    elim (same_or_not t m.thread) as (λ _. made_of s t ≤ made_of new t) [
      | inl same ↦
          (let before = made_at s m.thread by.before by.was in
          let bound = (made_before by.before).1 in
          let after = step_made s m new e by in
          subst (λ x. made_of s x ≤ made_of new x) (sym same) (omega (arith, before, bound, after)))
      | inr apart ↦ (let same = made_others s m new e by t apart in omega (arith, same))
    ]

run_grows : (s : State) (u : List Move) (end : State) (h : List Event) → Leads s u end h → (t : ℕ) → made_of s t ≤ made_of end t
run_grows s [] end h p t = rw p.0 (omega arith)
run_grows s (m ∷ u) end h p t =
    let first = made_grows s m p.0 p.1 (step_stepped s m p.0 p.1 p.3) t in
    let rest = run_grows p.0 u end p.2 p.4 t in
    omega (arith, first, rest)

-- no thread has made more calls than it has
abbrev AreMade : State → Type 0
AreMade s = (t : ℕ) → made_of s t ≤ call_count s t

made_few : (s : State) (m : Move) (new : State) (e : Option Event) → (by : Stepped s m new e) → AreMade s → AreMade new
made_few s m new e by few t =
    let count : call_count new t ≡ call_count s t = ap (λ x. length (calls_of x t)) by.matrix in
    elim (same_or_not t m.thread) as (λ _. made_of new t ≤ call_count new t) [
      | inl same ↦
          (let here : made_of new m.thread ≤ call_count s m.thread =
          (let after = step_made s m new e by in
          let before = made_at s m.thread by.before by.was in
          let most = few m.thread in
          elim by.kind as (λ _. made_of new m.thread ≤ call_count s m.thread) [
            | inl called ↦ (let left = called.4 in omega (arith, after, left))
            | inr other ↦ elim other as (λ _. made_of new m.thread ≤ call_count s m.thread) [
              | inl went ↦ (let busy = made_busy by.before went.0 in omega (arith, after, before, busy, most))
              | inr closed ↦ (let busy = made_busy by.before closed.0 in omega (arith, after, before, busy, most))
            ]
          ]) in
          let there : made_of new t ≤ call_count s t = subst (λ x. made_of new x ≤ call_count s x) (sym same) here in
          omega (arith, there, count))
      | inr apart ↦ (let still = made_others s m new e by t apart in let most = few t in omega (arith, still, most, count))
    ]

run_few : (s : State) (u : List Move) (end : State) (h : List Event) → Leads s u end h → AreMade s → AreMade end
run_few s [] end h p few = subst AreMade (sym p.0) few
run_few s (m ∷ u) end h p few = run_few p.0 u end p.2 p.4 (made_few s m p.0 p.1 (step_stepped s m p.0 p.1 p.3) few)

-- ---- the cut

-- a matrix with the calls made up to the end, and no others
record IsCutAt (end : State) (from to : Matrix) : Type 0 where
  pub same : (t k : ℕ) → k < made_of end t → slice_get (calls_of to t) k ≡ slice_get (calls_of from t) k
  pub few : (t : ℕ) → length (calls_of to t) ≤ made_of end t

-- the same schedule, with the same history
cut_leads : (matrix : Matrix) (s : State) (u : List Move) (end : State) (h : List Event) → IsCutAt end s.matrix matrix → Leads s u end h → Leads (with_matrix s matrix) u (with_matrix end matrix) h
cut_leads matrix s [] end h is p = (ap (λ x. with_matrix x matrix) p.0, p.1)
cut_leads matrix s (m ∷ u) end h is p =
    let by = step_stepped s m p.0 p.1 p.3 in
    let after = step_made s m p.0 p.1 by in
    let grows = run_grows p.0 u end p.2 p.4 m.thread in
    let same : (a : Thread) → slice_get s.threads m.thread ≡ Some a → a.activity ≡ Idle → slice_get (calls_of matrix m.thread) a.done ≡ slice_get (calls_of s.matrix m.thread) a.done = (λ a stands idle.
    (let number : by.before.done ≡ a.done = ap (λ (x : Thread). x.done) (the_thread s m.thread by.before a by.was stands) in
    is.same m.thread a.done (omega (arith, after, grows, number)))) in
    let on : IsCutAt end p.0.matrix matrix = subst (λ x. IsCutAt end x matrix) (sym by.matrix) is in
    (with_matrix p.0 matrix, p.1, p.2, step_with matrix s m p.0 p.1 same p.3, cut_leads matrix p.0 u end p.2 on p.4, p.5)

-- with no operation open it is complete
cut_complete : (matrix : Matrix) (end : State) → IsCutAt end end.matrix matrix → IsQuiet end → IsComplete (with_matrix end matrix)
cut_complete matrix end is quiet t within = by_thread (slice_get end.threads t) refl
  where
    by_thread : (o : Option Thread) → slice_get end.threads t ≡ o → IsFinished (with_matrix end matrix) t
    by_thread None e = rw e tt
    by_thread (Some a) e =
        elim (idle_or_not a.activity) as (λ _. IsFinished (with_matrix end matrix) t) [
          | inl idle ↦ (let at = made_at end t a e in let made_is = made_idle a idle in let few = is.few t in rw e (idle, omega (arith, at, made_is, few)))
          | inr busy ↦ absurd (quiet t (a, e, busy))
        ]

picks_idle : (s : State) (t : ℕ) (a : Thread) → slice_get s.threads t ≡ Some a → a.activity ≡ Idle → call_count s t ≤ a.done → picks_of s t ≡ 0
picks_idle s t a stands idle over = rw (stands, idle, le-ltb a.done (call_count s t) over) refl

picks_nobody : (s : State) (t : ℕ) → slice_get s.threads t ≡ None → picks_of s t ≡ 0
picks_nobody s t e = rw e refl

no_picks : (matrix : Matrix) (end : State) (t : ℕ) → IsCutAt end end.matrix matrix → ((x : ℕ) → HasOpen end x → x ≡ t) → picks_of end t ≡ 0 → (x : ℕ) (o : Option Thread) → slice_get end.threads x ≡ o → picks_of (with_matrix end matrix) x ≡ 0
no_picks matrix end t is only blocked x None e = picks_nobody (with_matrix end matrix) x e
no_picks matrix end t is only blocked x (Some a) e =
    elim (idle_or_not a.activity) as (λ _. picks_of (with_matrix end matrix) x ≡ 0) [
      | inl idle ↦ (let at = made_at end x a e in let made_is = made_idle a idle in let few = is.few x in picks_idle (with_matrix end matrix) x a e idle (omega (arith, at, made_is, few)))
      | inr busy ↦
          (let here : x ≡ t = only x (a, e, busy) in
          picks_with matrix end x a a.activity e refl busy ∙ (ap (picks_of end) here ∙ blocked))
    ]

-- where only a blocked operation is open it is stuck
cut_stuck : (matrix : Matrix) (end : State) (t : ℕ) → IsCutAt end end.matrix matrix → HasOpen end t → ((x : ℕ) → HasOpen end x → x ≡ t) → picks_of end t ≡ 0 → IsStuck (with_matrix end matrix)
cut_stuck matrix end t is busy only blocked = (
  λ complete. complete_not_open (with_matrix end matrix) complete t busy,
  λ x. no_picks matrix end t is only blocked x (slice_get end.threads x) refl,
)

pub take_within : {A : Type 0} (n : ℕ) (xs : List A) (k : ℕ) → k < n → slice_get (take n xs) k ≡ slice_get xs k
take_within zero xs k h = absurd (omega arith)
take_within (suc n) [] k h = refl
take_within (suc n) (x ∷ xs) zero h = refl
take_within (suc n) (x ∷ xs) (suc k) h = take_within n xs k (omega arith)

pub take_few : {A : Type 0} (n : ℕ) (xs : List A) → length (take n xs) ≤ n
take_few zero xs = omega arith
take_few (suc n) [] = omega arith
take_few (suc n) (x ∷ xs) = let rest = take_few n xs in omega (arith, rest)

cut_same : (rows : List (List ACall)) (threads : List Thread) (t k : ℕ) → k < made_in (slice_get threads t) → slice_get (row_of (first_calls rows (map made threads)) t) k ≡ slice_get (row_of rows t) k
cut_same [] threads t k h = refl
cut_same (row ∷ rows) [] t k h = absurd (omega arith)
cut_same (row ∷ rows) (a ∷ threads) zero k h = take_within (made a) row k h
cut_same (row ∷ rows) (a ∷ threads) (suc t) k h = cut_same rows threads t k h

cut_few : (rows : List (List ACall)) (threads : List Thread) (t : ℕ) → length (row_of (first_calls rows (map made threads)) t) ≤ made_in (slice_get threads t)
cut_few [] threads t = omega arith
cut_few (row ∷ rows) [] t = omega arith
cut_few (row ∷ rows) (a ∷ threads) zero = take_few (made a) row
cut_few (row ∷ rows) (a ∷ threads) (suc t) = cut_few rows threads t

-- the calls made are a cut
cut_at_end : (matrix : Matrix) (end : State) → IsCutAt end matrix (cut matrix (made_calls end))
cut_at_end matrix end = record { same = λ t k h. cut_same matrix.threads end.threads t k h; few = λ t. cut_few matrix.threads end.threads t }

-- The same schedule over the matrix cut to the calls made in it, with the same history.
pub record Cut (s : State) (u : List Move) (before : State) (h : List Event) : Type 0 where
  pub end : State
  pub leads : Leads s u end h
  pub complete : IsQuiet before → IsComplete end
  pub stuck : (t : ℕ) → HasOpen before t → picks_of before t ≡ 0 → IsStuck end

pub cut_ends : (s : State) (u : List Move) (end : State) (h : List Event) → IsQuiet s → LeadsSerially s u end h → Cut (with_matrix s (cut s.matrix (made_calls end))) u end h
cut_ends s u end h quiet p =
    let leads = serially_leads s u end h p in
    let matrix = cut s.matrix (made_calls end) in
    let is : IsCutAt end s.matrix matrix = cut_at_end s.matrix end in
    let at : IsCutAt end end.matrix matrix = subst (λ x. IsCutAt end x matrix) (sym (leads_matrix s u end h leads)) is in
    let one : AtMostOne end = one_along s u end h (λ t i a b. absurd (quiet t a)) (serially_to s u end h p) leads in
    record {
      end = with_matrix end matrix;
      leads = cut_leads matrix s u end h is leads;
      complete = λ calm. cut_complete matrix end at calm;
      stuck = λ t busy blocked. cut_stuck matrix end t at busy (λ x o. one x t o busy) blocked;
    }

-- ---- from the start

keeps_threads : (s : State) (u : List Move) (end : State) (h : List Event) → Leads s u end h → length end.threads ≡ length s.threads
keeps_threads s [] end h p = ap (λ (x : State). length x.threads) p.0
keeps_threads s (m ∷ u) end h p = keeps_threads p.0 u end p.2 p.4 ∙ step_keeps_threads s m p.0 p.1 p.3

start_threads : (g : Ground) (matrix : Matrix) → length (start_on g matrix).threads ≡ length matrix.threads
start_threads g matrix = let idle : Thread = record { done = 0; activity = Idle } in length-replicate (length matrix.threads) idle

none_made : (n t : ℕ) → made_in (slice_get (replicate n (record { done = 0; activity = Idle })) t) ≡ 0
none_made zero t = refl
none_made (suc n) zero = refl
none_made (suc n) (suc t) = none_made n t

none_done : (n t : ℕ) → done_in (slice_get (replicate n (record { done = 0; activity = Idle })) t) ≡ 0
none_done zero t = refl
none_done (suc n) zero = refl
none_done (suc n) (suc t) = none_done n t

-- at the start no operation has ended
pub start_done : (g : Ground) (matrix : Matrix) (t : ℕ) → done_of (start_on g matrix) t ≡ 0
start_done g matrix t = none_done (length matrix.threads) t

zip_lengths : (rows : List (List ACall)) (threads : List Thread) → length threads ≡ length rows → ((t : ℕ) → made_in (slice_get threads t) ≤ length (row_of rows t)) → AllZip (λ (calls : List ACall) n. n ≤ length calls) rows (map made threads)
zip_lengths [] [] e few = tt
zip_lengths [] (a ∷ threads) e few = absurd (omega arith)
zip_lengths (row ∷ rows) [] e few = absurd (omega arith)
zip_lengths (row ∷ rows) (a ∷ threads) e few = (few 0, zip_lengths rows threads (omega arith) (λ t. few (suc t)))

-- the numbers of calls made are lengths of the matrix
-- no thread makes more calls than it has
pub made_within : (g : Ground) (matrix : Matrix) (u : List Move) (end : State) (h : List Event) → Leads (start_on g matrix) u end h → (t : ℕ) → made_of end t ≤ length (calls_of matrix t)
made_within g matrix u end h leads t =
    let few = run_few (start_on g matrix) u end h leads (λ x. (let none : made_of (start_on g matrix) x ≡ 0 = none_made (length matrix.threads) x in omega (arith, none))) t in
    let count = leads_count (start_on g matrix) u end h leads t in
    omega (arith, few, count)

pub made_lengths : (g : Ground) (matrix : Matrix) (u : List Move) (end : State) (h : List Event) → Leads (start_on g matrix) u end h → AreLengths matrix (made_calls end)
made_lengths g matrix u end h leads =
    zip_lengths matrix.threads end.threads (keeps_threads (start_on g matrix) u end h leads ∙ start_threads g matrix) (made_within g matrix u end h leads)

cut_length : (rows : List (List ACall)) (lengths : List ℕ) → AllZip (λ (calls : List ACall) n. n ≤ length calls) rows lengths → length (first_calls rows lengths) ≡ length rows
cut_length [] [] h = refl
cut_length [] (n ∷ lengths) h = absurd h
cut_length (row ∷ rows) [] h = absurd h
cut_length (row ∷ rows) (n ∷ lengths) h = let rest = cut_length rows lengths h.1 in omega (arith, rest)

-- the start of the cut matrix
pub cut_start : (g : Ground) (matrix : Matrix) (lengths : List ℕ) → AreLengths matrix lengths → with_matrix (start_on g matrix) (cut matrix lengths) ≡ start_on g (cut matrix lengths)
cut_start g matrix lengths are =
    let idle : Thread = record { done = 0; activity = Idle } in
    ap (λ (n : ℕ). let x : State = record (start_on g (cut matrix lengths)) { threads = replicate n idle } in x) (sym (cut_length matrix.threads lengths are))

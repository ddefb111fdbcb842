-- The moves that are feasible.
use Rattle.std.proofs.Common.{◌≡◌, ◌<◌, ◌≤◌, ℕ, List, [], ◌∷◌, ◌++◌, All, length, if◌then◌else◌, Bool, true, false, nat_lt, slice_get, Option, Some, None, refl, subst, inl, inr, arith}
use Rattle.std.proofs.lemmas.Bool.{cases_lt}
use Rattle.std.proofs.lemmas.List.Elements.{All-get_or}
use Rattle.std.proofs.lemmas.Option.{slice_get_within, get_or_from_slice_get}
use Rattle.std.specs.Option.{option_map_or}
use Rattle.lu_component.specs.declared.component.Op.{Op}
use Rattle.lu_component.specs.declared.instr.Instr.{Instr}
use Rattle.lu_component.specs.declared.instr.Instr.TheVariants.{Set, Compute, Load, Store, Cas, Lock, Unlock, Await, AwaitNot, Pick, Jump, JumpIfZero, Return}
use Rattle.lu_component.specs.Component.{Component, IsComponent, IsInstr, IsOp}
use Rattle.lu_test.specs.declared.matrix.Call.{Call}
use Rattle.lu_test.specs.declared.schedule.Move.{Move}
use Rattle.lu_test.specs.Matrix.{Matrix, calls_of}
use Rattle.lu_test.specs.Schedule.{IsMove}
use Rattle.lu_machine.specs.declared.thread.Activity.{Activity}
use Rattle.lu_machine.specs.declared.thread.Activity.TheVariants.{Idle, Open}
use Rattle.lu_machine.specs.declared.thread.Thread.{Thread}
use Rattle.lu_machine.specs.States.{State, call_count, instr_at}
use Rattle.lu_machine.specs.Steps.{IsFeasible, activity_picks, choices, is_blocked, picks_of}
use Rattle.lu_machine.proofs.Ended.{picks_past}

-- an instruction leaves at most 8 choices
pub few_choices : (arrays locks places : ℕ) (instr : Instr) → IsInstr arrays locks places instr → choices instr ≤ 8
few_choices arrays locks places (Set to v) is = omega arith
few_choices arrays locks places (Compute by to a b) is = omega arith
few_choices arrays locks places (Load to w i) is = omega arith
few_choices arrays locks places (Store w i v) is = omega arith
few_choices arrays locks places (Cas to w i a b) is = omega arith
few_choices arrays locks places (Lock l) is = omega arith
few_choices arrays locks places (Unlock l) is = omega arith
few_choices arrays locks places (Await w i v) is = omega arith
few_choices arrays locks places (AwaitNot w i v) is = omega arith
few_choices arrays locks places (Pick to count) is = is.2
few_choices arrays locks places (Jump target) is = omega arith
few_choices arrays locks places (JumpIfZero v target) is = omega arith
few_choices arrays locks places (Return v) is = omega arith

-- what holds of all holds of each
pub all_at : {A : Type 0} (P : A → Type 0) (xs : List A) (i : ℕ) (x : A) → All P xs → slice_get xs i ≡ Some x → P x
all_at P xs i x all at = subst P (get_or_from_slice_get xs i x x at) (All-get_or P xs i x (slice_get_within xs i x at) all)

pub unless_blocked : (blocked : Bool) (n : ℕ) → n ≤ 8 → (if blocked then 0 else n) ≤ 8
unless_blocked true n h = omega arith
unless_blocked false n h = h

pub one_at_most : (b : Bool) → (if b then 1 else 0) ≤ 8
one_at_most true = omega arith
one_at_most false = omega arith

pub instr_is : (c : Component) → IsComponent c → (op : ℕ) (o : Option Op) → slice_get c.operations op ≡ o → (blocked : Instr → Bool) (place : ℕ) (i : Option Instr) → instr_at c op place ≡ i → option_map_or (λ instr. if blocked instr then 0 else choices instr) i 0 ≤ 8
unfolding instr_at
instr_is c is op o at blocked place None e = omega arith
instr_is c is op None at blocked place (Some instr) e = (let e' = rw at at e in cc)
instr_is c is op (Some op') at blocked place (Some instr) e =
    let e' : slice_get op'.code place ≡ Some instr = rw at at e in
    let isop = all_at (IsOp (length c.arrays) (length c.locks)) c.operations op op' is.operations at in
    let isin = all_at (IsInstr (length c.arrays) (length c.locks) (length op'.code)) op'.code place instr isop.code.instrs e' in
    unless_blocked (blocked instr) (choices instr) (few_choices (length c.arrays) (length c.locks) (length op'.code) instr isin)

-- a thread has at most 8 picks
pub activity_few : (s : State) → IsComponent s.component → (t done : ℕ) (activity : Activity) → activity_picks s t done activity ≤ 8
activity_few s is t done Idle = one_at_most (nat_lt done (call_count s t))
activity_few s is t done (Open f) = instr_is s.component is f.op (slice_get s.component.operations f.op) refl (is_blocked s f) f.place (instr_at s.component f.op f.place) refl

-- a feasible move is one of 8 threads and of one of its 8 picks
pub feasible_is_move : (s : State) → IsComponent s.component → length s.threads ≤ 8 → (m : Move) → IsFeasible s m → IsMove m
feasible_is_move s is few m f = by_thread (slice_get s.threads m.thread) refl
  where
    by_thread : (o : Option Thread) → slice_get s.threads m.thread ≡ o → IsMove m
    by_thread None at = (let f' = rw at at f in absurd (omega (arith, f')))
    by_thread (Some x) at =
        let within : m.thread < length s.threads = slice_get_within s.threads m.thread x at in
        let f' : m.pick < activity_picks s m.thread x.done x.activity = rw at at f in
        let le = activity_few s is m.thread x.done x.activity in
        (omega arith, omega arith)

-- a feasible move is one of a thread
pub feasible_within : (s : State) (m : Move) → IsFeasible s m → m.thread < length s.threads
feasible_within s m f =
    elim (cases_lt m.thread (length s.threads)) [
      | inl lt ↦ lt
      | inr ge ↦ (let none : picks_of s m.thread ≡ 0 = picks_past s m.thread ge in absurd (omega arith))
    ]

-- of schedules that are the same and go on from u, the next moves are the same
pub next_same : (u : List Move) (m n : Move) (x y : List Move) → (u ++ m ∷ []) ++ x ≡ (u ++ n ∷ []) ++ y → m ≡ n
next_same [] m n x y e = cc
next_same (k ∷ u) m n x y e = next_same u m n x y (cc)

-- a thread makes at most 8 calls
pub calls_few : (matrix : Matrix) (t : ℕ) → All (λ calls. length calls ≤ 8) matrix.threads → length (calls_of matrix t) ≤ 8
calls_few matrix t few = by_thread (slice_get matrix.threads t) refl
  where
    by_thread : (o : Option (List Call)) → slice_get matrix.threads t ≡ o → length (calls_of matrix t) ≤ 8
    by_thread None is = rw is (omega arith)
    by_thread (Some calls) is = rw is (all_at (λ calls. length calls ≤ 8) matrix.threads t calls few is)

-- Where a schedule ends and only calls are left, each operation that is open is blocked.
use Rattle.std.proofs.Common.{◌≡◌, ℕ, List, [], ◌∷◌, Option, None, Some, slice_get, refl, sym, ◌∙◌, ap, subst, inl, inr}
use Rattle.lu_component.specs.declared.instr.Instr.{Instr}
use Rattle.lu_component.specs.declared.instr.Instr.TheVariants.{Set, Compute, Load, Store, Cas, Lock, Unlock, Await, AwaitNot, Pick, Jump, JumpIfZero, Return}
use Rattle.lu_test.specs.declared.schedule.Move.{Move}
use Rattle.lu_machine.specs.declared.event.Event.{Event}
use Rattle.lu_machine.specs.declared.thread.Activity.{Activity}
use Rattle.lu_machine.specs.declared.thread.Activity.TheVariants.{Idle, Open}
use Rattle.lu_machine.specs.declared.thread.Frame.{Frame}
use Rattle.lu_machine.specs.declared.thread.Thread.{Thread}
use Rattle.lu_machine.specs.declared.undo.Shared.TheVariants.{Nothing}
use Rattle.lu_machine.specs.Ends.{IsEnded}
use Rattle.lu_machine.specs.Runs.{Leads}
use Rattle.lu_machine.specs.States.{State, instr_at}
use Rattle.lu_machine.specs.Steps.{activity_picks, instr_picks, picks_of}
use Rattle.lu_machine.proofs.Ended.{complete_no_move}
use Rattle.lu_tree.proofs.Accessing.{written, written_other}
use Rattle.lu_late.specs.Steps.{AreCalls, IsIdle}
use Rattle.lu_late.proofs.Calls.{stands_only, idle_back}

-- a call leaves other threads the picks that they had
module _ (s : State) (t u : ℕ) (now : Thread) (differ : t ≡ u → ⊥) where
  instr_same : (f : Frame) (instr : Instr) → instr_picks (written s Nothing t now) f instr ≡ instr_picks s f instr
  instr_same f (Set to v) = refl
  instr_same f (Compute by to x y) = refl
  instr_same f (Load to w i) = refl
  instr_same f (Store w i v) = refl
  instr_same f (Cas to w i x y) = refl
  instr_same f (Lock l) = refl
  instr_same f (Unlock l) = refl
  instr_same f (Await w i v) = refl
  instr_same f (AwaitNot w i v) = refl
  instr_same f (Pick to count) = refl
  instr_same f (Jump target) = refl
  instr_same f (JumpIfZero v target) = refl
  instr_same f (Return v) = refl

  open_same : (k : ℕ) (f : Frame) (o : Option Instr) → instr_at s.component f.op f.place ≡ o → activity_picks (written s Nothing t now) u k (Open f) ≡ activity_picks s u k (Open f)
  open_same k f None is = rw is refl
  open_same k f (Some instr) is = rw is (instr_same f instr)

  activity_same : (k : ℕ) (a : Activity) → activity_picks (written s Nothing t now) u k a ≡ activity_picks s u k a
  activity_same k Idle = refl
  activity_same k (Open f) = open_same k f (instr_at s.component f.op f.place) refl

  thread_same : (o : Option Thread) → slice_get s.threads u ≡ o → picks_of (written s Nothing t now) u ≡ picks_of s u
  thread_same None is = rw (written_other s Nothing t u now differ, is) refl
  thread_same (Some thread) is = rw (written_other s Nothing t u now differ, is) (activity_same thread.done thread.activity)

  pub picks_same : picks_of (written s Nothing t now) u ≡ picks_of s u
  picks_same = thread_same (slice_get s.threads u) refl

pub none_at_end : (s : State) (t : ℕ) → IsEnded s → picks_of s t ≡ 0
none_at_end s t (inl complete) = complete_no_move s complete t
none_at_end s t (inr stuck) = stuck.1 t

pub last_calls_are_blocked : (s : State) (u : List Move) (end : State) (h : List Event) → AreCalls s u → Leads s u end h → IsEnded end → (t : ℕ) → (IsIdle s t → ⊥) → picks_of s t ≡ 0
last_calls_are_blocked s [] end h calls leads ended t none = none_at_end s t (subst IsEnded leads.0 ended)
last_calls_are_blocked s (x ∷ w) end h calls (next, e, rest, step, leads, joined) ended t none =
    let differ : x.thread ≡ t → ⊥ = λ same. none (subst (IsIdle s) same calls.0) in
    let only = stands_only s x next e calls.0 step in
    let same : picks_of next t ≡ picks_of s t = ap (λ (z : State). picks_of z t) only.is ∙ picks_same s x.thread t only.now differ in
    sym same ∙ last_calls_are_blocked next w end rest (calls.1 next e step) leads ended t (λ is. none (idle_back s x next e t differ step is))

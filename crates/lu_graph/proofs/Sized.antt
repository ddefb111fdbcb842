-- A machine has as many cells, locks and threads as its component and its matrix declare.
use Rattle.std.proofs.Common.{◌≡◌, ℕ, zero, suc, ◌==◌, Bool, true, false, List, [], ◌∷◌, length, Option, None, Some, sym, ◌∙◌, ap}
use Rattle.std.specs.Prelude.{MatchBool, MatchOption}
use Rattle.std.proofs.lemmas.List.{length-replicate, length-set}
use Rattle.lu_component.specs.Component.{Component}
use Rattle.lu_component.specs.declared.instr.Instr.{Instr}
use Rattle.lu_component.specs.declared.instr.Instr.TheVariants.{Set, Compute, Load, Store, Cas, Lock, Unlock, Await, AwaitNot, Pick, Jump, JumpIfZero, Return}
use Rattle.lu_test.specs.declared.matrix.Call.{Call}
use Rattle.lu_test.specs.declared.schedule.Move.{Move}
use Rattle.lu_test.specs.Matrix.{Matrix, thread_count}
use Rattle.lu_machine.specs.declared.event.Event.{Event}
use Rattle.lu_machine.specs.declared.event.Outcome.TheVariants.{Trap}
use Rattle.lu_machine.specs.declared.thread.Activity.{Activity}
use Rattle.lu_machine.specs.declared.thread.Activity.TheVariants.{Idle, Open}
use Rattle.lu_machine.specs.declared.thread.Frame.{Frame}
use Rattle.lu_machine.specs.Effects.{Effect, onward, onward_with, value_of}
use Rattle.lu_machine.specs.Effects.Effect.{Ends}
use Rattle.lu_machine.specs.Runs.{Leads}
use Rattle.lu_machine.specs.Starts.{IsStart, MakesAll, first_move}
use Rattle.lu_machine.specs.States.{State, cell_at, first_cell, value_at, with_cell, with_owner}
use Rattle.lu_machine.specs.Steps.{ByActivity, Carries, OneStep, RunsOn, Step, is_at_local, more_local, owns}
use Rattle.lu_machine.proofs.Keeping.{step_keeps_threads, step_moved}
use Rattle.lu_machine.proofs.Layouts.{length-initial_cells}
use Rattle.lu_machine.proofs.Starting.{start_component, start_matrix, start_threads}
use Rattle.lu_graph.specs.Rows.{IsSized}

-- there are as many cells and locks
record AreAsMany (s new : State) : Type 0 where
  cells : length new.cells ≡ length s.cells
  locks : length new.locks ≡ length s.locks

many_same : (s new : State) → new ≡ s → AreAsMany s new
many_same s new is = record { cells = ap (λ (x : State). length x.cells) is; locks = ap (λ (x : State). length x.locks) is }

many_on : (s mid new : State) → AreAsMany s mid → AreAsMany mid new → AreAsMany s new
many_on s mid new a b = record { cells = b.cells ∙ a.cells; locks = b.locks ∙ a.locks }

many_cell : (s new : State) (p n : ℕ) → new ≡ with_cell s p n → AreAsMany s new
many_cell s new p n is = record {
  cells = ap (λ (x : State). length x.cells) is ∙ length-set s.cells p n;
  locks = ap (λ (x : State). length x.locks) is;
}

many_owner : (s new : State) (l : ℕ) (owner : Option ℕ) → new ≡ with_owner s l owner → AreAsMany s new
many_owner s new l owner is = record {
  cells = ap (λ (x : State). length x.cells) is;
  locks = ap (λ (x : State). length x.locks) is ∙ length-set s.locks l owner;
}

many_stored : (s new : State) (n : ℕ) (o : Option ℕ) (x y e : Effect) → MatchOption o ((new ≡ s) × (e ≡ x)) (λ p. (new ≡ with_cell s p n) × (e ≡ y)) → AreAsMany s new
many_stored s new n None x y e h = many_same s new h.0
many_stored s new n (Some p) x y e h = many_cell s new p n h.0

many_either : (s new : State) (t : Bool) (one : State) (x y e : Effect) → (new ≡ one → AreAsMany s new) → MatchBool t ((new ≡ one) × (e ≡ x)) ((new ≡ s) × (e ≡ y)) → AreAsMany s new
many_either s new true one x y e changed h = changed h.0
many_either s new false one x y e changed h = many_same s new h.0

many_cas : (s new : State) (f : Frame) (to v n : ℕ) (o : Option ℕ) (e : Effect) → MatchOption o ((new ≡ s) × (e ≡ Ends Trap)) (λ p. MatchBool (value_at s p == v) ((new ≡ with_cell s p n) × (e ≡ onward_with f to 1)) ((new ≡ s) × (e ≡ onward_with f to 0))) → AreAsMany s new
many_cas s new f to v n None e h = many_same s new h.0
many_cas s new f to v n (Some p) e h =
    many_either s new (value_at s p == v) (with_cell s p n) (onward_with f to 1) (onward_with f to 0) e (many_cell s new p n) h

many_carried : (s : State) (m : Move) (f : Frame) (instr : Instr) (new : State) (e : Effect) → Carries s m f instr new e → AreAsMany s new
many_carried s m f (Set to v) new e h = many_same s new h.0
many_carried s m f (Compute by to x y) new e h = many_same s new h.0
many_carried s m f (Load to w i) new e h = many_same s new h.0
many_carried s m f (Store w i v) new e h = many_stored s new (value_of f v) (cell_at s f w i) (Ends Trap) (onward f) e h
many_carried s m f (Cas to w i x y) new e h = many_cas s new f to (value_of f x) (value_of f y) (cell_at s f w i) e h
many_carried s m f (Lock l) new e h = many_owner s new l (Some m.thread) h.1
many_carried s m f (Unlock l) new e h =
    many_either s new (owns s m.thread l) (with_owner s l None) (onward f) (Ends Trap) e (many_owner s new l None) h
many_carried s m f (Await w i v) new e h = many_same s new h.0
many_carried s m f (AwaitNot w i v) new e h = many_same s new h.0
many_carried s m f (Pick to count) new e h = many_same s new h.0
many_carried s m f (Jump target) new e h = many_same s new h.0
many_carried s m f (JumpIfZero v target) new e h = many_same s new h.0
many_carried s m f (Return v) new e h = many_same s new h.0

many_active : (s : State) (m : Move) (done : ℕ) (activity : Activity) (new : State) (event : Option Event) → ByActivity s m done activity new event → AreAsMany s new
many_active s m done Idle new event h = record { cells = ap (λ (x : State). length x.cells) h.3; locks = ap (λ (x : State). length x.locks) h.3 }
many_active s m done (Open f) new event h =
    let mid = many_carried s m f h.0 h.1 h.2 h.5 in
    record { cells = ap (λ (x : State). length x.cells) h.6 ∙ mid.cells; locks = ap (λ (x : State). length x.locks) h.6 ∙ mid.locks }

many_one : (s : State) (m : Move) (new : State) (event : Option Event) → OneStep s m new event → AreAsMany s new
many_one s m new event h = many_active s m h.0.done h.0.activity new event h.2

many_run : (n : ℕ) (s : State) (t : ℕ) (end : State) → RunsOn n s t end → AreAsMany s end
many_run zero s t end h = many_same s end h
many_run (suc n) s t end h = by (is_at_local s t) (λ next. many_run n next t end) h
  where
    by : (b : Bool) → ((next : State) → RunsOn n next t end → AreAsMany next end) → MatchBool b ((next : State) × OneStep s (record { thread = t; pick = 0 }) next None × RunsOn n next t end) (end ≡ s) → AreAsMany s end
    by true rest (next, one, on) = many_on s next end (many_one s (record { thread = t; pick = 0 }) next None one) (rest next on)
    by false rest is = many_same s end is

many_step : (s : State) (m : Move) (new : State) (event : Option Event) → Step s m new event → AreAsMany s new
many_step s m new event h = many_on s h.0 new (many_one s m h.0 event h.1) (many_run (more_local s m.thread) h.0 m.thread new h.2)

-- so it is after a move
pub step_sized : (s : State) (m : Move) (new : State) (event : Option Event) → Step s m new event → IsSized s → IsSized new
step_sized s m new event step is =
    let many = many_step s m new event step in
    let moved = step_moved s m new event step in
    record {
      cells = many.cells ∙ (is.cells ∙ ap (λ (c : Component). first_cell c.arrays (length c.arrays)) (sym moved.component));
      locks = many.locks ∙ (is.locks ∙ ap (λ (c : Component). length c.locks) (sym moved.component));
      threads = step_keeps_threads s m new event step ∙ (is.threads ∙ ap thread_count (sym moved.matrix));
    }

-- ---- at the start

many_led : (s : State) (u : List Move) (end : State) (h : List Event) → Leads s u end h → AreAsMany s end
many_led s [] end h leads = many_same s end leads.0
many_led s (m ∷ u) end h leads = many_on s leads.0 end (many_step s m leads.0 leads.1 leads.3) (many_led leads.0 u end leads.2 leads.4)

many_made : (c : Component) (calls : List Call) (k : ℕ) (end : State) → MakesAll c calls k end → (length end.cells ≡ first_cell c.arrays (length c.arrays)) × (length end.locks ≡ length c.locks)
many_made c calls zero end is = (
  ap (λ (x : State). length x.cells) is ∙ length-initial_cells c.arrays,
  ap (λ (x : State). length x.locks) is ∙ length-replicate (length c.locks) None,
)
many_made c calls (suc k) end (before, made, makes) =
    let first = many_made c calls k before made in
    let many = many_led before (first_move ∷ _) end makes.history makes.leads in
    (many.cells ∙ first.0, many.locks ∙ first.1)

pub start_sized : (c : Component) (matrix : Matrix) (s : State) → IsStart c matrix s → IsSized s
start_sized c matrix s is =
    let many = many_made c matrix.setup (length matrix.setup) is.end is.made in
    let component = start_component c matrix s is in
    record {
      cells = ap (λ (x : State). length x.cells) is.is ∙ (many.0 ∙ ap (λ (d : Component). first_cell d.arrays (length d.arrays)) (sym component));
      locks = ap (λ (x : State). length x.locks) is.is ∙ (many.1 ∙ ap (λ (d : Component). length d.locks) (sym component));
      threads = ap length (start_threads c matrix s is) ∙ (length-replicate (thread_count matrix) (record { done = 0; activity = Idle }) ∙ ap thread_count (sym (start_matrix c matrix s is)));
    }

-- The limits of schedules.
use Rattle.std.proofs.Common.{◌≡◌, ◌≤◌, List, [], ◌∷◌, All, length, replicate, sym, subst, arith}
use Rattle.std.proofs.lemmas.List.{length-replicate}
use Rattle.std.proofs.lemmas.List.Elements.{All-nil, All-cons}
use Rattle.lu_component.specs.Component.{Component, IsComponent}
use Rattle.lu_test.specs.declared.schedule.Move.{Move}
use Rattle.lu_test.specs.Matrix.{Matrix, IsMatrix}
use Rattle.lu_test.specs.Schedule.{IsMove, AreMoves}
use Rattle.lu_machine.specs.declared.event.Event.{Event}
use Rattle.lu_machine.specs.declared.thread.Activity.TheVariants.{Idle}
use Rattle.lu_machine.specs.declared.thread.Thread.{Thread}
use Rattle.lu_machine.specs.States.{State}
use Rattle.lu_machine.specs.Starts.{IsStart}
use Rattle.lu_machine.specs.Runs.{Leads}
use Rattle.lu_machine.proofs.Keeping.{step_moved, step_keeps_threads}
use Rattle.lu_machine.proofs.Moves.{feasible_is_move}
use Rattle.lu_machine.proofs.StepLaws.{step_feasible}

-- the moves of a schedule are moves of threads
all_moves : (u : List Move) (s end : State) (h : List Event) → IsComponent s.component → length s.threads ≤ 8 → Leads s u end h → All IsMove u
all_moves [] s end h is few leads = All-nil IsMove
all_moves (m ∷ u) s end h is few leads =
    let step = leads.3 in
    let moved = step_moved s m leads.0 leads.1 step in
    let same = step_keeps_threads s m leads.0 leads.1 step in
    let rest : All IsMove u = all_moves u leads.0 end leads.2 (subst IsComponent (sym moved.component) is) (omega arith) leads.4 in
    All-cons IsMove m u (feasible_is_move s is few m (step_feasible s m leads.0 leads.1 step)) rest

-- the limits of the state at the start
pub start_limits : (c : Component) (matrix : Matrix) (s : State) → IsComponent c → IsMatrix matrix → IsStart c matrix s → IsComponent s.component × (length s.threads ≤ 8)
start_limits c matrix s is are start =
    let idle : Thread = record { done = 0; activity = Idle } in
    let threads : length (replicate (length matrix.threads) idle) ≡ length matrix.threads = length-replicate (length matrix.threads) idle in
    let most = are.limits.few in
    rw start.is (is, omega arith)

-- a schedule of a component and a matrix within the bound is one that has a text
pub schedule_moves : (c : Component) (matrix : Matrix) (s : State) → IsComponent c → IsMatrix matrix → IsStart c matrix s → (u : List Move) (end : State) (h : List Event) → Leads s u end h → length u ≤ 256 → AreMoves u
schedule_moves c matrix s is are start u end h leads short =
    let limits = start_limits c matrix s is are start in
    (omega arith, all_moves u s end h limits.0 limits.1 leads)

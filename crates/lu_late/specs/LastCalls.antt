-- Last calls: operations that are called, and then never move. A schedule is judged before them, each
-- operation by itself.
use Rattle.std.specs.Prelude.{◌≡◌, ◌↔◌, ℕ, ◌<◌, Bool, List, [], ◌∷◌, ◌++◌, Option, Some, slice_get}
use Rattle.lu_component.specs.Component.{Component}
use Rattle.lu_test.specs.declared.schedule.Move.{Move}
use Rattle.lu_test.specs.Matrix.{Matrix}
use Rattle.lu_machine.specs.declared.event.Event.{Event}
use Rattle.lu_machine.specs.declared.event.Event.TheVariants.{Call}
use Rattle.lu_machine.specs.Changes.{IsAtWork, idle}
use Rattle.lu_machine.specs.Ends.{IsComplete, IsEnded}
use Rattle.lu_machine.specs.Runs.{Leads}
use Rattle.lu_machine.specs.Starts.{IsStart}
use Rattle.lu_machine.specs.States.{State, call_count}
use Rattle.lu_machine.specs.Steps.{Step, picks_of}
use Rattle.lu_history.specs.declared.serial.SerialOp.{SerialOp}
use Rattle.lu_history.specs.Parts.{keep_pending}
use Rattle.lu_witness.specs.Goodness.{IsGoodAt}
use Rattle.lu_witness.specs.Witnesses.{HasWitness, IsMember}
use Rattle.lu_graph.specs.Guards.{TellsGuarded}
use Rattle.lu_graph.specs.Nodes.{EndsWell}
use Rattle.lu_late.specs.Steps.{AreCalls, IsIdle, LeadsBySteps}

-- ---- where last calls may end a schedule

-- Each open operation is blocked. So is each operation that an idle thread may call next, once it is
-- called.
pub record AreAllBlocked (s : State) : Type 0 where
  pub begun : (t : ℕ) → (IsIdle s t → ⊥) → picks_of s t ≡ 0
  pub next : (m : Move) (next : State) (event : Option Event)
      → IsIdle s m.thread → Step s m next event → picks_of next m.thread ≡ 0

-- calls alone lead from s to an end
abbrev pub EndsByCalls : State → Type 0
EndsByCalls s =
    (calls : List Move) × (end : State) × (after : List Event)
    × AreCalls s calls × Leads s calls end after × IsEnded end

-- Calls alone lead to an end exactly where all are blocked.
abbrev pub BlockedEndByCalls : Type 0
BlockedEndByCalls = (s : State) → EndsByCalls s ↔ AreAllBlocked s

-- ---- how it is judged

-- A state with this history is good for a set before the last calls are made: if it is complete, the
-- history has a witness; and so it has for each open operation, and for each operation that an idle
-- thread calls next, without the other pending calls.
pub record IsGoodBefore (Set : List SerialOp → Type 0) (rest : State)
    (h : List Event) : Type 0 where
  pub complete : IsComplete rest → HasWitness Set h
  pub begun : (t k : ℕ) → IsAtWork rest t k → HasWitness Set (keep_pending t h)
  pub next : (t k : ℕ) → slice_get rest.threads t ≡ Some (idle k) → k < call_count rest t
      → HasWitness Set (keep_pending t (h ++ Call t k ∷ []))

-- A schedule that ends with calls is good exactly where the state before them is. So a search need
-- not make these calls.
abbrev pub JudgedBeforeLastCalls : Type 0
JudgedBeforeLastCalls =
    (c : Component) (matrix : Matrix) (s : State) → IsStart c matrix s
    → (u : List Move) (rest : State) (h : List Event) → Leads s u rest h
    → (calls : List Move) (end : State) (after : List Event)
    → AreCalls rest calls → Leads rest calls end after → IsEnded end
    → (members : List (List SerialOp))
    → IsGoodAt (IsMember members) end (h ++ after) ↔ IsGoodBefore (IsMember members) rest h

-- each state to which steps lead, and in which all are blocked, is good before the last calls
abbrev pub AreGoodBefore : (List SerialOp → Type 0) → State → Type 0
AreGoodBefore Set s =
    (n : ℕ) (u : List Move) (rest : State) (h : List Event)
    → LeadsBySteps n s u rest h → AreAllBlocked rest → IsGoodBefore Set rest h

-- Each schedule that ends is good exactly where these states are. So a search need take steps only.
abbrev pub StepsAreEnough : Type 0
StepsAreEnough =
    (c : Component) (matrix : Matrix) (guarded : List Bool) (s : State) → TellsGuarded c guarded
    → IsStart c matrix s → (members : List (List SerialOp))
    → EndsWell (IsMember members) s ↔ AreGoodBefore (IsMember members) s

-- Laws of steps, starts and ends.
use Rattle.std.specs.Prelude.{◌≡◌, ◌≢◌, ◌↔◌, ◌⊎◌, ℕ, Option, slice_get}
use Rattle.lu_component.specs.Component.{Component}
use Rattle.lu_test.specs.declared.schedule.Move.{Move}
use Rattle.lu_test.specs.Matrix.{Matrix}
use Rattle.lu_machine.specs.declared.event.Event.{Event}
use Rattle.lu_machine.specs.declared.event.Status.{Status}
use Rattle.lu_machine.specs.States.{State}
use Rattle.lu_machine.specs.Steps.{OneStep, RunsOn, Step, IsFeasible}
use Rattle.lu_machine.specs.Starts.{IsStart, IsUnsettledAt, Settles}
use Rattle.lu_machine.specs.Ends.{HasMove, HasStatus, HasNoMove, IsComplete}

-- a component and a matrix start in at most one state
abbrev pub OneStart : Type 0
OneStart =
    (c : Component) (matrix : Matrix) (a b : State) → IsStart c matrix a → IsStart c matrix b
    → a ≡ b

-- they start somewhere exactly where the setup settles
abbrev pub StartsWhereSettled : Type 0
StartsWhereSettled =
    (c : Component) (matrix : Matrix) → Settles c matrix ↔ ((s : State) × IsStart c matrix s)

-- where a call of the setup does not end, the setup does not settle
abbrev pub NeverBoth : Type 0
NeverBoth =
    (c : Component) (matrix : Matrix) (k : ℕ) → IsUnsettledAt c matrix k → Settles c matrix → ⊥

-- at most one call of the setup is the first that does not end
abbrev pub OneUnsettled : Type 0
OneUnsettled =
    (c : Component) (matrix : Matrix) (i j : ℕ) → IsUnsettledAt c matrix i
    → IsUnsettledAt c matrix j → i ≡ j

-- of two matrices with one setup, the cells and locks are the same at the start
abbrev pub SetupsAlike : Type 0
SetupsAlike =
    (c : Component) (matrix other : Matrix) (a b : State) → matrix.setup ≡ other.setup →
    IsStart c matrix a → IsStart c other b → (a.cells ≡ b.cells) × (a.locks ≡ b.locks)

-- a move leads to at most one state, with one event or none
abbrev pub OneOutcome : Type 0
OneOutcome =
    (s : State) (m : Move) (a b : State) (e f : Option Event) → Step s m a e → Step s m b f
    → (a ≡ b) × (e ≡ f)

-- only a feasible move leads anywhere
abbrev pub FeasibleOnly : Type 0
FeasibleOnly =
    (s : State) (m : Move) (new : State) (event : Option Event) → Step s m new event
    → IsFeasible s m

-- a feasible move leads somewhere
abbrev pub AllFeasible : Type 0
AllFeasible =
    (s : State) (m : Move) → IsFeasible s m
    → (new : State) × (event : Option Event) × Step s m new event

-- where no local instructions run with a move, it is one call or instruction
abbrev pub OneWithoutLocal : Type 0
OneWithoutLocal =
    (s : State) (m : Move) (new : State) (event : Option Event) →
    s.component.local ≡ 0 → (Step s m new event ↔ OneStep s m new event)

-- all that other threads than t could see stays: cells, locks, and where they stand
pub record LooksAlike (t : ℕ) (s new : State) : Type 0 where
  pub cells : new.cells ≡ s.cells
  pub locks : new.locks ≡ s.locks
  pub others : (i : ℕ) → i ≢ t → slice_get new.threads i ≡ slice_get s.threads i

-- no other thread could see that a thread runs on by local instructions
abbrev pub LocalUnseen : Type 0
LocalUnseen = (n : ℕ) (s : State) (t : ℕ) (end : State) → RunsOn n s t end → LooksAlike t s end

-- no thread of a complete state is enabled
abbrev pub CompleteIsOver : Type 0
CompleteIsOver = (s : State) → IsComplete s → HasNoMove s

-- a state is complete or not
abbrev pub CompleteOrNot : Type 0
CompleteOrNot = (s : State) → IsComplete s ⊎ (IsComplete s → ⊥)

-- some thread is enabled or none
abbrev pub MoveOrNot : Type 0
MoveOrNot = (s : State) → HasMove s ⊎ HasNoMove s

-- a state has one status
abbrev pub OneStatus : Type 0
OneStatus = (s : State) (a b : Status) → HasStatus s a → HasStatus s b → a ≡ b

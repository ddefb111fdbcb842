-- Linearizability of a component's operations on a matrix (Herlihy and Wing, 1990), for schedules
-- that are stuck too (Burckhardt, Dern, Musuvathi and Tan, 2010).
use Rattle.std.specs.Prelude.{List}
use Rattle.lu_component.specs.Component.{Component}
use Rattle.lu_test.specs.declared.schedule.Move.{Move}
use Rattle.lu_test.specs.Matrix.{Matrix}
use Rattle.lu_machine.specs.States.{State}
use Rattle.lu_machine.specs.Starts.{IsStart}
use Rattle.lu_machine.specs.Ends.{IsEnded}
use Rattle.lu_machine.specs.Schedules.{Reaches}
use Rattle.lu_history.specs.declared.serial.SerialOp.{SerialOp}
use Rattle.lu_serial.specs.Cuts.{IsCutOf}
use Rattle.lu_witness.specs.Witnesses.{IsMember}
use Rattle.lu_witness.specs.Goodness.{IsGoodAt}

-- each ended schedule of each cut of the matrix, of any length, is good for the set
abbrev pub IsLinearizable : Component → Matrix → (List SerialOp → Type 0) → Type 0
IsLinearizable c matrix Set =
    (smaller : Matrix) (s : State) (u : List Move) →
    IsCutOf matrix smaller → IsStart c smaller s → Reaches s u (λ end _. IsEnded end)
    → Reaches s u (IsGoodAt Set)

-- the same of the set with these members
abbrev pub IsLinearizableTo : Component → Matrix → List (List SerialOp) → Type 0
IsLinearizableTo c matrix members = IsLinearizable c matrix (IsMember members)

-- u is ended, and not good for the set
abbrev pub Refutes : (List SerialOp → Type 0) → State → List Move → Type 0
Refutes Set s u = Reaches s u (λ end history. IsEnded end × (IsGoodAt Set end history → ⊥))

-- a cut of the matrix, with a schedule of it that is ended and not good for the set
abbrev pub IsCounterexample : Component → Matrix → (List SerialOp → Type 0) → Matrix × List Move
    → Type 0
IsCounterexample c matrix Set example =
    IsCutOf matrix example.0 × ((s : State) → IsStart c example.0 s → Refutes Set s example.1)

-- the same of the set with these members
abbrev pub IsCounterexampleTo : Component → Matrix → List (List SerialOp) → Matrix × List Move
    → Type 0
IsCounterexampleTo c matrix members example = IsCounterexample c matrix (IsMember members) example

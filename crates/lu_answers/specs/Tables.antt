-- The automaton of the serial histories of all unrolled matrices, as a table of numbered stages.
use Rattle.std.specs.Prelude.{◌≡◌, ◌≢◌, ℕ, List, [], ◌∷◌, Option, Some, None, get_or, option_and_then, slice_get}
use Rattle.lu_component.specs.Component.{Component}
use Rattle.lu_test.specs.declared.matrix.Call.{Call}
use Rattle.lu_test.specs.Matrix.{Matrix}
use Rattle.lu_machine.specs.Starts.{FromEachStart}
use Rattle.lu_history.specs.declared.serial.SerialOutcome.{SerialOutcome}
use Rattle.lu_history.specs.declared.serial.SerialOutcome.TheVariants.{Stuck}
use Rattle.lu_history.specs.declared.serial.SerialOp.{SerialOp}
use Rattle.lu_client.specs.Rounds.{Way}
use Rattle.lu_client.specs.Alone.{Answers, Overruns, Rest, rest_of}
use Rattle.lu_client.specs.Stages.{Follows, IsCallAt, IsIn, Stage, first_stage}
use Rattle.lu_answers.specs.declared.rounds.Rounds.{Rounds}
use Rattle.lu_answers.specs.Ways.{way_of}

-- The stages. For each stage and thread, the outcome of the thread's next call, and the stage to
-- which it leads; none where the call blocks.
pub record Table : Type 0 where
  pub stages : List Stage
  pub answer : ℕ → ℕ → Option (SerialOutcome × ℕ)

-- the rows of a table: for each stage, the answer to each thread's next call
abbrev pub Rows : Type 0
Rows = List (List (Option (SerialOutcome × ℕ)))

-- the answer in these rows
abbrev pub answer_in : Rows → ℕ → ℕ → Option (SerialOutcome × ℕ)
answer_in rows x t = option_and_then (λ row. get_or row t None) (slice_get rows x)

-- the table of these stages and rows
abbrev pub table_of : List Stage → Rows → Table
table_of stages rows = record { stages = stages; answer = answer_in rows }

-- from stage x thread t's next call returns with this outcome, and leads to stage y
abbrev pub Goes : Table → ℕ → ℕ → SerialOutcome → ℕ → Type 0
Goes table x t outcome y = table.answer x t ≡ Some (outcome, y)

-- the operations lead from stage x to stage y
abbrev pub GoesAll : Table → ℕ → List SerialOp → ℕ → Type 0
GoesAll table x [] y = y ≡ x
GoesAll table x (op ∷ q) y = (z : ℕ) × Goes table x op.thread op.outcome z × GoesAll table z q y

-- the operations lead from the first stage to stage x
abbrev pub LeadsTo : Table → List SerialOp → ℕ → Type 0
LeadsTo table q x = GoesAll table 0 q x

-- from each rest of the stage, the call takes no more moves than the bound, and has no outcome but
-- this one
abbrev pub EndsOnlyAs : Component → ℕ → Stage → ℕ → Call → SerialOutcome → Type 0
EndsOnlyAs c bound stage t call outcome =
    (rest : Rest) → IsIn stage.rests rest
    → (Overruns c bound rest t call → ⊥)
    × ((other : SerialOutcome) → Answers c rest t call other → other ≡ outcome)

-- the table's answer to the call: it blocks; or it returns with this outcome, and leads to a stage
-- with all rests after it
abbrev pub IsAnswer : Component → Way → Matrix → ℕ → List Stage → Stage → ℕ → ℕ → Call
    → Option (SerialOutcome × ℕ) → Type 0
IsAnswer c way matrix bound stages stage t place call None =
    EndsOnlyAs c bound stage t call Stuck
IsAnswer c way matrix bound stages stage t place call (Some (outcome, y)) =
    (outcome ≢ Stuck) × EndsOnlyAs c bound stage t call outcome
    × ((next : Stage) × (slice_get stages y ≡ Some next)
    × Follows c way matrix stage t place call next)

-- The table of the serial histories: stage 0 is the first, and each next call has its answer.
pub record IsTableOf (c : Component) (way : Way) (matrix : Matrix) (bound : ℕ)
    (start : Rest) (table : Table) : Type 0 where
  pub starts : slice_get table.stages 0 ≡ Some (first_stage matrix start)
  pub answers : (x : ℕ) (stage : Stage) (t place : ℕ) (call : Call)
      → slice_get table.stages x ≡ Some stage → IsCallAt way matrix stage t place call
      → IsAnswer c way matrix bound table.stages stage t place call (table.answer x t)

-- these rows, with some stages, are the table of the serial histories
abbrev pub IsTableFrom : Component → Rounds → Matrix → Rows → List Stage → ℕ → Type 0
IsTableFrom c rounds matrix rows stages bound =
    FromEachStart c matrix
    (λ s. IsTableOf c (way_of rounds) matrix bound (rest_of s) (table_of stages rows))

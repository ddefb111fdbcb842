-- What next calls answer from a stage.
use Rattle.std.specs.Prelude.{◌≡◌, ◌≢◌, ◌⊎◌, ℕ, List, Option, Some, None, slice_get, get_or}
use Rattle.lu_component.specs.Component.{Component}
use Rattle.lu_test.specs.declared.matrix.Call.{Call}
use Rattle.lu_test.specs.Matrix.{Matrix}
use Rattle.lu_machine.specs.Starts.{IsStart}
use Rattle.lu_machine.specs.States.{State}
use Rattle.lu_history.specs.declared.serial.SerialOutcome.{SerialOutcome}
use Rattle.lu_history.specs.declared.serial.SerialOutcome.TheVariants.{Stuck}
use Rattle.lu_serial.specs.Offences.{NoOffence}
use Rattle.lu_client.specs.Rounds.{IsUnrolledFrom}
use Rattle.lu_client.specs.Alone.{Answers, Overruns, Plays, Rest}
use Rattle.lu_client.specs.Stages.{Follows, IsCallAt, IsIn, Stage}
use Rattle.lu_answers.specs.declared.rounds.Rounds.{Rounds}
use Rattle.lu_answers.specs.declared.stop.Stop.{Stop}
use Rattle.lu_answers.specs.declared.stop.Stop.TheVariants.{Offends, TooMany, Memory}
use Rattle.lu_answers.specs.declared.finding.Tabled.{Tabled}
use Rattle.lu_answers.specs.declared.finding.Tabled.TheVariants.{Table as Made, Offends as SomeOffend, TooMany as TooManyStages}
use Rattle.lu_answers.specs.declared.stage.StoredStage.{StoredStage}
use Rattle.lu_answers.specs.Stored.{stage_of, stages_of, IsStored}
use Rattle.lu_answers.specs.Tables.{EndsOnlyAs, IsAnswer, IsTableFrom, Rows}
use Rattle.lu_answers.specs.Ways.{way_of}

-- a next call of thread t, where lines are made this often
abbrev pub IsNextFrom : Rounds → Matrix → Stage → ℕ → ℕ → Call → Type 0
IsNextFrom rounds matrix stage t place call = IsCallAt (way_of rounds) matrix stage t place call

-- ---- a call that returns

-- each rest of `next` is one to which the call leads, with this outcome
abbrev pub LeadsToEach : Component → Stage → ℕ → Call → SerialOutcome → Stage → Type 0
LeadsToEach c stage t call outcome next =
    (after : Rest) → IsIn next.rests after
    → (rest : Rest) × IsIn stage.rests rest × Plays c rest t call outcome after

-- A next call of the stage leads to each rest of `next`.
pub record LeadsOn (c : Component) (rounds : Rounds) (matrix : Matrix) (stage next : Stage)
    : Type 0 where
  pub t : ℕ
  pub place : ℕ
  pub call : Call
  pub outcome : SerialOutcome
  pub is_next : IsNextFrom rounds matrix stage t place call
  pub follows : Follows c (way_of rounds) matrix stage t place call next
  pub each : LeadsToEach c stage t call outcome next

-- Thread t's next call returns with this outcome, from each rest of the stage, within the bound; and
-- the rests of `next` are those to which it leads.
pub record ReturnsTo (c : Component) (rounds : Rounds) (matrix : Matrix) (bound : ℕ) (stage : Stage)
    (t : ℕ) (outcome : SerialOutcome) (next : Stage) : Type 0 where
  pub place : ℕ
  pub call : Call
  pub is_next : IsNextFrom rounds matrix stage t place call
  pub free : outcome ≢ Stuck
  pub only : EndsOnlyAs c bound stage t call outcome
  pub follows : Follows c (way_of rounds) matrix stage t place call next
  pub each : LeadsToEach c stage t call outcome next

-- thread t's next call, if it has one, blocks from each rest of the stage, within the bound
abbrev pub BlocksAlways : Component → Rounds → Matrix → ℕ → Stage → ℕ → Type 0
BlocksAlways c rounds matrix bound stage t =
    (place : ℕ) (call : Call) → IsNextFrom rounds matrix stage t place call
    → EndsOnlyAs c bound stage t call Stuck

-- what thread t's next call answers from the stage, with the component and the matrix of s: none where
-- it blocks, or there is none
abbrev pub IsReply : Rounds → State → ℕ → StoredStage → ℕ → Option (SerialOutcome × StoredStage)
    → Type 0
IsReply rounds s bound stored t None =
    BlocksAlways s.component rounds s.matrix bound (stage_of stored) t
IsReply rounds s bound stored t (Some (outcome, next)) =
    ReturnsTo s.component rounds s.matrix bound (stage_of stored) t outcome (stage_of next)

-- the stage to which the call leads, if it returns, is stored
abbrev pub IsReplyStored : State → Option (SerialOutcome × StoredStage) → Type 0
IsReplyStored s None = Unit {0}
IsReplyStored s (Some (outcome, next)) = IsStored s.component s.matrix next

-- ---- a call that offends

-- From two rests of the stage, or from one, thread t's call has two outcomes.
pub record HasTwoOutcomes (c : Component) (stage : Stage) (t : ℕ) (call : Call) : Type 0 where
  pub rest : Rest
  pub other : Rest
  pub one : IsIn stage.rests rest
  pub also_one : IsIn stage.rests other
  pub a : SerialOutcome
  pub b : SerialOutcome
  pub answers : Answers c rest t call a
  pub also : Answers c other t call b
  pub apart : a ≢ b

-- from a rest of the stage, it takes more moves than the bound
abbrev pub OverrunsFrom : Component → ℕ → Stage → ℕ → Call → Type 0
OverrunsFrom c bound stage t call =
    (rest : Rest) × IsIn stage.rests rest × Overruns c bound rest t call

-- a next call of the stage takes more moves than the bound, or has two outcomes
abbrev pub HasOffence : Component → Rounds → Matrix → ℕ → Stage → Type 0
HasOffence c rounds matrix bound stage =
    (t place : ℕ) × (call : Call) × IsNextFrom rounds matrix stage t place call
    × (OverrunsFrom c bound stage t call ⊎ HasTwoOutcomes c stage t call)

-- the fact holds where it stopped at a call that offends
abbrev pub IfOffends : Stop → Type 0 → Type 0
IfOffends Offends fact = fact
IfOffends TooMany fact = Unit {0}
IfOffends Memory fact = Unit {0}

-- if it stopped there, a next call of the stage offends
abbrev pub StopsFrom : Rounds → State → ℕ → StoredStage → Stop → Type 0
StopsFrom rounds s bound stored stop =
    IfOffends stop (HasOffence s.component rounds s.matrix bound (stage_of stored))

-- ---- rows

-- the outcome of a call, and the number of the stage to which it leads; none where it blocks
abbrev pub Step : Type 0
Step = Option (SerialOutcome × ℕ)

-- thread t's next call from stage x, if it has one, has this answer
abbrev pub IsRightAt : Component → Rounds → Matrix → ℕ → List Stage → ℕ → ℕ → Step → Type 0
IsRightAt c rounds matrix bound all x t step =
    (stage : Stage) (place : ℕ) (call : Call) → slice_get all x ≡ Some stage
    → IsNextFrom rounds matrix stage t place call
    → IsAnswer c (way_of rounds) matrix bound all stage t place call step

-- the row has the answers of all threads from stage x
abbrev pub IsRow : Component → Rounds → Matrix → ℕ → List StoredStage → ℕ → List Step → Type 0
IsRow c rounds matrix bound all x row =
    (t : ℕ) → IsRightAt c rounds matrix bound (stages_of all) x t (get_or row t None)

-- each new stage is an old one, or a next call of stage x leads to it
abbrev pub AddsFrom : Component → Rounds → Matrix → List StoredStage → ℕ → List StoredStage → Type 0
AddsFrom c rounds matrix old x new =
    (stage next : Stage) → slice_get (stages_of old) x ≡ Some stage → IsIn (stages_of new) next
    → IsIn (stages_of old) next ⊎ LeadsOn c rounds matrix stage next

-- a next call of stage x offends
abbrev pub HasOffenceAt : Component → Rounds → Matrix → ℕ → List StoredStage → ℕ → Type 0
HasOffenceAt c rounds matrix bound all x =
    (stage : Stage) × (slice_get (stages_of all) x ≡ Some stage)
    × HasOffence c rounds matrix bound stage

-- the same for the component and the matrix of s
abbrev pub IsStepFor : Rounds → State → ℕ → List StoredStage → ℕ → ℕ → Step → Type 0
IsStepFor rounds s bound all x t step =
    IsRightAt s.component rounds s.matrix bound (stages_of all) x t step

abbrev pub IsRowFor : Rounds → State → ℕ → List StoredStage → ℕ → List Step → Type 0
IsRowFor rounds s bound all x row = IsRow s.component rounds s.matrix bound all x row

abbrev pub AddsFor : Rounds → State → List StoredStage → ℕ → List StoredStage → Type 0
AddsFor rounds s old x new = AddsFrom s.component rounds s.matrix old x new

abbrev pub StopsAt : Rounds → State → ℕ → List StoredStage → ℕ → Stop → Type 0
StopsAt rounds s bound all x stop =
    IfOffends stop (HasOffenceAt s.component rounds s.matrix bound all x)

-- ---- the table

-- A matrix unrolled from this one has a serial run that offends within the bound.
pub record SomeOffends (c : Component) (rounds : Rounds) (matrix : Matrix) (bound : ℕ)
    : Type 0 where
  pub big : Matrix
  pub unrolled : IsUnrolledFrom (way_of rounds) matrix big
  pub start : State
  pub is_start : IsStart c big start
  pub offends : NoOffence start bound → ⊥

-- if it stopped at a call that offends, one of them does so
abbrev pub StopsSo : Component → Rounds → Matrix → ℕ → Stop → Type 0
StopsSo c rounds matrix bound stop = IfOffends stop (SomeOffends c rounds matrix bound)

-- this is the table of the serial histories of all unrolled matrices, with some stages
abbrev pub IsFoundTable : Component → Rounds → Matrix → ℕ → Rows → Type 0
IsFoundTable c rounds matrix bound rows =
    (stages : List Stage) × IsTableFrom c rounds matrix rows stages bound

-- the table; or some unrolled matrix offends; or the table has too many stages
abbrev pub IsTabled : Component → Rounds → Matrix → ℕ → Tabled → Type 0
IsTabled c rounds matrix bound (Made table) = IsFoundTable c rounds matrix bound table
IsTabled c rounds matrix bound SomeOffend = SomeOffends c rounds matrix bound
IsTabled c rounds matrix bound TooManyStages = Unit {0}

-- What the steps of a refutation promise one another.
use Rattle.std.specs.Prelude.{◌≡◌, ℕ, ◌≤◌, ◌↔◌, Bool, false, IsTrue, List, [], ◌++◌, length, take, Option, Some, None}
use Rattle.lu_test.specs.declared.schedule.Move.{Move}
use Rattle.lu_test.specs.Matrix.{Matrix, cut}
use Rattle.lu_machine.specs.declared.event.Event.{Event}
use Rattle.lu_machine.specs.States.{State}
use Rattle.lu_machine.specs.declared.test.Test.{Test}
use Rattle.lu_machine.specs.Steps.{Step}
use Rattle.lu_machine.specs.Tests.{IsStartOf}
use Rattle.lu_history.specs.declared.serial.SerialOp.{SerialOp}
use Rattle.lu_trie.specs.Members.{contains}
use Rattle.lu_serial.specs.Serial.{IsSeriallyEnded}
use Rattle.lu_serial.specs.Offences.{IsFirstOutside}
use Rattle.lu_serial.specs.Walks.{entry_if}
use Rattle.lu_witness.specs.Witnesses.{IsMember}
use Rattle.lu_report.specs.declared.report.Finding.{Finding}
use Rattle.lu_report.specs.declared.report.Report.{Report}
use Rattle.lu_report.specs.declared.report.Finding.TheVariants.{SerialCut, Nondeterministic, Fail, Pass}
use Rattle.lu_refute.specs.declared.shortest.Walk.{Walk}
use Rattle.lu_serial.specs.Whole.{IsQuiet, made_calls}
use Rattle.lu_refute.specs.Linearizable.{Refutes}
use Rattle.lu_refute.specs.Answers.{IsAnswerWith, IsOutsideAnswer, IsShortest}

-- no operation is open, and none has returned; the calls are those made
pub record IsBeforeAnyReturn (walk : Walk) : Type 0 where
  pub quiet : IsQuiet walk.machine
  pub entries : walk.entries.items ≡ []
  pub calls : walk.calls.items ≡ made_calls walk.machine

-- one move further: the operation that it ended is after the others, and the calls are those made
pub record IsFurther (old new : Walk) (m : Move) : Type 0 where
  pub event : Option Event
  pub step : Step old.machine m new.machine event
  pub entries : new.entries.items ≡ old.entries.items ++ entry_if event
  pub calls : new.calls.items ≡ made_calls new.machine

-- u is serially ended, and its history is no member
abbrev pub EndsOutside : State → List (List SerialOp) → List Move → Type 0
EndsOutside s members u = (q : List SerialOp) × IsSeriallyEnded s u q × (contains members q ≡ false)

-- The walk stands after this many moves of w, and these are the shortest beginning that ends with a
-- whole entry and whose entries are no member.
pub record IsStop (s : State) (members : List (List SerialOp)) (w : List Move) (walk : Walk)
    (count : ℕ) : Type 0 where
  pub within : count ≤ length w
  pub short : IsShortest s members w (take count w)
  pub ends : short.whole.end ≡ walk.machine
  pub calls : walk.calls.items ≡ made_calls walk.machine

-- the shortest such beginning of w, over the matrix cut to the calls made in it
pub record IsShortestOver (s : State) (members : List (List SerialOp)) (w : List Move)
    (answer : Matrix × List Move) : Type 0 where
  pub short : IsShortest s members w answer.1
  pub matrix_is : answer.0 ≡ cut s.matrix (made_calls short.whole.end)

-- ---- from the start of a test

-- u is serially ended, and its history is no member
abbrev pub IsOutsideOf : Test → List (List SerialOp) → List Move → Type 0
IsOutsideOf test members u = (s : State) → IsStartOf test s → EndsOutside s members u

-- its shortest such beginning
abbrev pub IsShortestOf : Test → List (List SerialOp) → List Move → Matrix × List Move → Type 0
IsShortestOf test members w answer =
    (s : State) → IsStartOf test s → IsShortestOver s members w answer

-- some schedule is outside
abbrev pub HasOutside : Test → ℕ → List (List SerialOp) → Type 0
HasOutside test serial members =
    (s : State) → IsStartOf test s → IsFirstOutside s serial members None → ⊥

-- the answer from outside
abbrev pub IsFromOutside : Test → ℕ → List (List SerialOp) → Matrix × List Move → Type 0
IsFromOutside test serial members answer =
    (s : State) → IsStartOf test s → IsOutsideAnswer s serial members answer

-- whether u is ended, and not good for the set
abbrev pub TellsRefutation : Test → List (List SerialOp) → List Move → Bool → Type 0
TellsRefutation test members u answer =
    (s : State) → IsStartOf test s → IsTrue answer ↔ Refutes (IsMember members) s u

-- the finding is a failure by this schedule, which is ended and not good for the set
abbrev pub IsOfFailure : State → List (List SerialOp) → Finding → List Move → Type 0
IsOfFailure s members (SerialCut v) u = ⊥
IsOfFailure s members (Nondeterministic v before earlier) u = ⊥
IsOfFailure s members (Fail v why) u = (u ≡ v) × Refutes (IsMember members) s v
IsOfFailure s members (Pass counts) u = ⊥

-- the schedule of such a failure, or none where the finding is no such one
abbrev pub IsScheduleOfFailure : Test → List (List SerialOp) → Finding → Option (List Move) → Type 0
IsScheduleOfFailure test members finding None =
    (s : State) (u : List Move) → IsStartOf test s → IsOfFailure s members finding u → ⊥
IsScheduleOfFailure test members finding (Some u) =
    (s : State) → IsStartOf test s → IsOfFailure s members finding u

-- what is answered to the report, with this bound of serial runs
abbrev pub IsAnswerOf : Test → Report → ℕ → List (List SerialOp) → Matrix × List Move → Type 0
IsAnswerOf test r serial members answer =
    IsAnswerWith test.component.now test.matrix.now r serial members answer

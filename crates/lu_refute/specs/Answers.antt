-- What is answered to a report and a specification.
use Rattle.std.specs.Prelude.{◌≡◌, ◌≢◌, ℕ, ◌⊎◌, false, List, Some, IsSomeAnd}
use Rattle.lu_component.specs.Component.{Component}
use Rattle.lu_test.specs.declared.schedule.Move.{Move}
use Rattle.lu_test.specs.Matrix.{Matrix, cut}
use Rattle.lu_machine.specs.States.{State}
use Rattle.lu_machine.specs.Starts.{IsStart}
use Rattle.lu_machine.specs.Schedules.{BeginsWith}
use Rattle.lu_history.specs.declared.serial.SerialOp.{SerialOp}
use Rattle.lu_trie.specs.Members.{contains}
use Rattle.lu_serial.specs.Offences.{IsFirstOutside}
use Rattle.lu_witness.specs.Witnesses.{IsMember}
use Rattle.lu_report.specs.declared.report.Finding.{Finding}
use Rattle.lu_report.specs.declared.report.Finding.TheVariants.{SerialCut, Nondeterministic, Fail, Pass}
use Rattle.lu_report.specs.declared.report.Report.{Report}
use Rattle.lu_replay.specs.Confirmed.{IsConfirmed}
pub use Rattle.lu_report.specs.Parts.{IsFailure}
use Rattle.lu_refute.specs.declared.fault.RefuteFault.{RefuteFault}
use Rattle.lu_refute.specs.declared.fault.RefuteFault.TheVariants.{NotShown, Memory}
use Rattle.lu_refute.specs.Linearizable.{Refutes}
use Rattle.lu_serial.specs.Whole.{IsSeriallyWhole, made_calls}

-- v is the shortest beginning of w that ends with a whole entry and whose entries are no member
pub record IsShortest (s : State) (members : List (List SerialOp)) (w v : List Move) : Type 0 where
  pub begins : BeginsWith w v
  pub entries : List SerialOp
  pub whole : IsSeriallyWhole s v entries
  pub outside : contains members entries ≡ false
  pub shortest : (x : List Move) (q : List SerialOp) → BeginsWith v x → x ≢ v
      → IsSeriallyWhole s x q → IsMember members q

-- the shortest such beginning of the least schedule outside, over the matrix cut to the calls made
-- in it
pub record IsOutsideAnswer (s : State) (serial : ℕ) (members : List (List SerialOp))
    (answer : Matrix × List Move) : Type 0 where
  pub outside : List Move
  pub least : IsFirstOutside s serial members (Some outside)
  pub short : IsShortest s members outside answer.1
  pub matrix_is : answer.0 ≡ cut s.matrix (made_calls short.whole.end)

-- To a failure: its schedule, over the whole matrix, where it is not good for the set; else the
-- answer from outside. To a conflict: the answer from outside.
abbrev pub IsAnswerTo : State → ℕ → List (List SerialOp) → Finding → Matrix × List Move → Type 0
IsAnswerTo s serial members (SerialCut u) answer = ⊥
IsAnswerTo s serial members (Nondeterministic u before earlier) answer =
    IsOutsideAnswer s serial members answer
IsAnswerTo s serial members (Fail u why) answer =
    (Refutes (IsMember members) s u × (answer ≡ (s.matrix, u)))
    ⊎ ((Refutes (IsMember members) s u → ⊥) × IsOutsideAnswer s serial members answer)
IsAnswerTo s serial members (Pass counts) answer = ⊥

-- what is answered to the report, with this bound of serial runs
abbrev pub IsAnswerWith : Component → Matrix → Report → ℕ → List (List SerialOp)
    → Matrix × List Move → Type 0
IsAnswerWith c matrix r serial members answer =
    (s : State) → IsStart c matrix s → IsAnswerTo s serial members r.finding answer

-- what is answered to the report, with its own bound
abbrev pub IsAnswer : Component → Matrix → Report → List (List SerialOp) → Matrix × List Move
    → Type 0
IsAnswer c matrix r members answer =
    IsSomeAnd r.serial (λ serial. IsAnswerWith c matrix r serial members answer)

-- a run confirms the report, which is a failure or nondeterministic
abbrev pub IsConfirmedFailure : Component → Matrix → Report → Type 0
IsConfirmedFailure c matrix r = IsConfirmed c matrix r × IsFailure r.finding

-- the report is no such one; or memory was refused
abbrev pub IsRefuteFault : Component → Matrix → Report → RefuteFault → Type 0
IsRefuteFault c matrix r NotShown = IsConfirmedFailure c matrix r → ⊥
IsRefuteFault c matrix r Memory = Unit {0}

-- What `serial` answers.
use Rattle.std.specs.Prelude.{◌↔◌, List, ◌≡◌, ◌⊎◌, ◌<◌, ◌≤◌, ◌-◌, ◌^◌, ℕ, length, min, Result, IfOk}
use Rattle.std.specs.List.Sorted.{IsStrictlySortedBy}
use Rattle.lu_text.specs.Words.{exactly_two}
use Rattle.lu_component.specs.Component.{Component}
use Rattle.lu_test.specs.Matrix.{Matrix}
use Rattle.lu_machine.specs.declared.test.Test.{Test}
use Rattle.lu_machine.specs.States.{State}
use Rattle.lu_machine.specs.Starts.{FromEachStart, IsStart}
use Rattle.lu_machine.specs.Tests.{FromEachStartOf}
use Rattle.lu_history.specs.declared.serial.SerialOp.{SerialOp}
use Rattle.lu_serial.specs.Serial.{IsSerialHistory}
use Rattle.lu_serial.specs.Offences.{IsSetOf}
use Rattle.lu_trie.specs.Members.{history_cmp}
use Rattle.lu_report.specs.declared.report.Finding.{Finding}
use Rattle.lu_report.specs.Parts.{Report, IsOfOffence}
use Rattle.lu_replay.specs.Reports.{IsFinding, IsReport}
use Rattle.lu_spec.specs.Beginnings.{Has, IsClosureOf}
use Rattle.lu_report.specs.Limits.{Bounds}
use Rattle.lu_cli.specs.Shows.{IsListed, reported}
use Rattle.lu_cli.specs.declared.refusal.Refusal.{Refusal}
use Rattle.lu_cli.specs.declared.serial.TheConstants.{MOST_LISTED}
use Rattle.lu_cli.specs.Outcomes.{Answer, too_many}
use Rattle.lu_cli.specs.Refusals.{Answered}
use Rattle.lu_cli.specs.Reading.{ToParts, ToTexts}

-- these are the serial histories from s
abbrev pub AreSerial : State → List (List SerialOp) → Type 0
AreSerial s histories = (q : List SerialOp) → Has histories q ↔ IsSerialHistory s q

-- the specification of the serial histories from s: these, and all their beginnings
abbrev pub ListsSerial : State → Answer → Type 0
ListsSerial s answer =
    (histories : List (List SerialOp)) × (members : List (List SerialOp))
    × AreSerial s histories × IsClosureOf histories members × IsListed members answer

-- the finding of a check with these bounds
abbrev pub IsFoundWithin : Component → Matrix → Bounds → Finding → Type 0
IsFoundWithin c matrix limits f =
    FromEachStart c matrix (λ s. IsFinding s limits.bound limits.serial f)

-- the report of a serial offence
abbrev pub IsOffenceReported : Component → Matrix → Bounds → Answer → Type 0
IsOffenceReported c m limits answer =
    (r : Report) × IsReport c m limits.bound limits.serial r × IsOfOffence r.finding
    × (answer ≡ reported r)

-- so it is of the result, where there is one
abbrev pub ReportsOffence : {E : Type 0} → Test → Bounds → Result Answer E → Type 0
ReportsOffence test limits result =
    IfOk result (IsOffenceReported test.component.now test.matrix.now limits)

-- where no serial run offends, there are n serial histories from s
pub record HasHistories (s : State) (serial n : ℕ) : Type 0 where
  pub members : List (List SerialOp)
  pub are : IsSetOf s serial members
  pub sorted : IsStrictlySortedBy history_cmp members
  pub count : length members ≡ n

-- there are few enough histories, and their specification is listed
pub record IsListedSerially (c : Component) (matrix : Matrix) (limits : Bounds)
    (answer : Answer) : Type 0 where
  pub start : State
  pub starts : IsStart c matrix start
  pub count : ℕ
  pub has : HasHistories start limits.serial count
  pub few : count ≤ MOST_LISTED
  pub lists : ListsSerial start answer

-- there are too many, and their number is reported, up to the greatest one of 64 bits
pub record IsCountReported (c : Component) (matrix : Matrix) (limits : Bounds)
    (answer : Answer) : Type 0 where
  pub start : State
  pub starts : IsStart c matrix start
  pub count : ℕ
  pub has : HasHistories start limits.serial count
  pub many : MOST_LISTED < count
  pub says : answer ≡ too_many (min count (2 ^ 64 - 1))

-- where there is no serial offence, the specification of the serial histories, or how many there
-- are; else the report of the least offence
abbrev pub IsRunSerially : Component → Matrix → Bounds → Answer → Type 0
IsRunSerially c matrix limits answer =
    IsListedSerially c matrix limits answer
    ⊎ IsCountReported c matrix limits answer
    ⊎ IsOffenceReported c matrix limits answer

-- from each start these are the serial histories, without offence
abbrev pub IsSetFromStarts : Test → ℕ → List (List SerialOp) → Type 0
IsSetFromStarts test serial members = FromEachStartOf test (λ s. IsSetOf s serial members)

-- so it is with some bound
abbrev pub IsSetAtSomeBound : Test → List (List SerialOp) → Type 0
IsSetAtSomeBound test members = (serial : ℕ) × IsSetFromStarts test serial members

-- the specification of the serial histories, where it succeeds
abbrev pub ListsFromStarts : {E : Type 0} → Test → Result Answer E → Type 0
ListsFromStarts test result =
    IfOk result (λ answer. FromEachStartOf test (λ s. ListsSerial s answer))

abbrev pub RunsSerially : Test → Bounds → Result Answer Refusal → Type 0
RunsSerially test limits result =
    Answered (IsRunSerially test.component.now test.matrix.now limits) result

abbrev pub IsAnswerToSerial : Bounds → List (List ℕ) → Answer → Type 0
IsAnswerToSerial limits parts =
    ToParts (exactly_two parts) (λ p. ToTexts p.0 p.1 (λ c m. IsRunSerially c m limits))

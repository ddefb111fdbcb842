-- Components that are held against a trusted one.
use Rattle.std.specs.Prelude.{◌≡◌, ◌⊎◌, ℕ, List, Option, Some, None}
use Rattle.std.specs.List.{AllZip}
use Rattle.lu_component.specs.declared.component.Op.{Op}
use Rattle.lu_component.specs.Component.{Component}
use Rattle.lu_test.specs.declared.schedule.Move.{Move}
use Rattle.lu_test.specs.Matrix.{IsOf, Matrix}
use Rattle.lu_machine.specs.Schedules.{IsLeast}
use Rattle.lu_machine.specs.States.{State}
use Rattle.lu_machine.specs.Starts.{AllEnd, FromEachStart}
use Rattle.lu_history.specs.declared.serial.SerialOp.{SerialOp}
use Rattle.lu_serial.specs.Offences.{IsFirstConflict, IsFirstCut, IsSetOf}
use Rattle.lu_serial.specs.Serial.{IsSerialHistory, IsSeriallyCut, IsSeriallyEnded}
use Rattle.lu_witness.specs.Witnesses.{IsMember}
use Rattle.lu_report.specs.declared.report.Report.{Report}
use Rattle.lu_report.specs.Parts.{IsPass}
use Rattle.lu_replay.specs.Reports.{IsReportAgainst}
use Rattle.lu_refine.specs.ByThread.{Asked, CanAsk, role_matrix}
use Rattle.lu_refine.specs.Roles.{AreWithinLimits}
use Rattle.lu_survey.specs.declared.comparison.Comparison.{Comparison}
use Rattle.lu_survey.specs.declared.comparison.Comparison.TheVariants.{AllAgree, First}
use Rattle.lu_survey.specs.declared.comparison.Difference.{Difference}
use Rattle.lu_survey.specs.declared.comparison.Difference.TheVariants.{Concurrently, Serially, TrustedConflict, TrustedCut}
use Rattle.lu_survey.specs.Slices.{AreAllSo, IsFirstOther}

-- ---- operations

-- the same name, and as many arguments
abbrev pub IsAlike : Op → Op → Type 0
IsAlike one other = (one.name ≡ other.name) × (one.args ≡ other.args)

-- the components have operations of the same names in the same order, each with as many arguments
abbrev pub HasSameOperations : Component → Component → Type 0
HasSameOperations c other = AllZip IsAlike c.operations other.operations

-- the trusted component has the operations of the other one, and each call of the setup ends with
-- it too
pub record CanCompare (asked : Asked) (trusted : Component) : Type 0 where
  pub asked_is : CanAsk asked
  pub operations : HasSameOperations asked.component trusted
  pub settles : AllEnd trusted asked.setup

-- ---- one matrix

-- without serial offence, these are the serial histories of the component on the matrix
abbrev pub AreHistories : Component → Matrix → ℕ → List (List SerialOp) → Type 0
AreHistories c matrix serial members = FromEachStart c matrix (λ s. IsSetOf s serial members)

-- each serial run of the component ends within the bound, and each of its serial histories is one
-- of these
pub record AgreesSerially (members : List (List SerialOp)) (c : Component) (matrix : Matrix)
    (serial : ℕ) : Type 0 where
  pub ends : FromEachStart c matrix (λ s. (u : List Move) → IsSeriallyCut s serial u → ⊥)
  pub within : FromEachStart c matrix (λ s. (q : List SerialOp) → IsSerialHistory s q
      → IsMember members q)

-- the component agrees with this set: it agrees serially, and its report against the set is a pass
pub record AgreesWith (members : List (List SerialOp)) (c : Component) (matrix : Matrix)
    (bound serial : ℕ) : Type 0 where
  pub serially : AgreesSerially members c matrix serial
  pub report : Report
  pub is : IsReportAgainst (IsMember members) c matrix bound report
  pub passes : IsPass report.finding

-- u is a serial run that does not end within the bound, or one with a history outside the set
abbrev pub IsOtherRun : State → ℕ → List (List SerialOp) → List Move → Type 0
IsOtherRun s serial members u =
    IsSeriallyCut s serial u
    ⊎ ((q : List SerialOp) × IsSeriallyEnded s u q × (IsMember members q → ⊥))

-- u is the least such run
abbrev pub IsFirstSerially : List (List SerialOp) → Component → Matrix → ℕ → List Move → Type 0
IsFirstSerially members c matrix serial u =
    FromEachStart c matrix (λ s. IsLeast (IsOtherRun s serial members) u)

-- the least such run, or none where the component agrees serially
abbrev pub IsFirstOtherRun : List (List SerialOp) → Component → Matrix → ℕ → Option (List Move)
    → Type 0
IsFirstOtherRun members c matrix serial None = AgreesSerially members c matrix serial
IsFirstOtherRun members c matrix serial (Some u) = IsFirstSerially members c matrix serial u

-- it agrees serially, but r is the report against the set, and no pass
pub record DiffersConcurrently (members : List (List SerialOp)) (c : Component)
    (matrix : Matrix) (bound serial : ℕ) (r : Report) : Type 0 where
  pub serially : AgreesSerially members c matrix serial
  pub is : IsReportAgainst (IsMember members) c matrix bound r
  pub no_pass : IsPass r.finding → ⊥

-- how it differs from this set, or none where it agrees
abbrev pub IsDifferenceBy : List (List SerialOp) → Component → Matrix → ℕ → ℕ
    → Option Difference → Type 0
IsDifferenceBy members c matrix bound serial None = AgreesWith members c matrix bound serial
IsDifferenceBy members c matrix bound serial (Some (Serially u)) =
    IsFirstSerially members c matrix serial u
IsDifferenceBy members c matrix bound serial (Some (Concurrently r)) =
    DiffersConcurrently members c matrix bound serial r
IsDifferenceBy members c matrix bound serial (Some (TrustedCut u)) = ⊥
IsDifferenceBy members c matrix bound serial (Some (TrustedConflict u before earlier)) = ⊥

-- the component agrees with the serial histories of the trusted one
abbrev pub Agrees : Component → Component → Matrix → ℕ → ℕ → Type 0
Agrees trusted c matrix bound serial =
    (members : List (List SerialOp)) × AreHistories trusted matrix serial members
    × AgreesWith members c matrix bound serial

-- How it does not: the least serial offence of the trusted component, where one of its serial runs
-- is cut or conflicts with another; else the component's least serial run that does not end, or ends
-- with another history; or the report, which is no pass.
abbrev pub IsDifference : Component → Component → Matrix → ℕ → ℕ → Difference → Type 0
IsDifference trusted c matrix bound serial (TrustedCut u) =
    FromEachStart trusted matrix (λ t. IsFirstCut t serial u)
IsDifference trusted c matrix bound serial (TrustedConflict u before earlier) =
    FromEachStart trusted matrix (λ t. IsFirstConflict t serial u before earlier)
IsDifference trusted c matrix bound serial (Serially u) =
    (members : List (List SerialOp)) × AreHistories trusted matrix serial members
    × IsFirstSerially members c matrix serial u
IsDifference trusted c matrix bound serial (Concurrently r) =
    (members : List (List SerialOp)) × AreHistories trusted matrix serial members
    × DiffersConcurrently members c matrix bound serial r

-- how it differs, or none where it agrees
abbrev pub IsDifferenceIfAny : Component → Component → Matrix → ℕ → ℕ → Option Difference
    → Type 0
IsDifferenceIfAny trusted c matrix bound serial None = Agrees trusted c matrix bound serial
IsDifferenceIfAny trusted c matrix bound serial (Some difference) =
    IsDifference trusted c matrix bound serial difference

-- ---- slices

-- on the matrix that the choice fills it agrees
abbrev pub AgreesAt : Component → Asked → List ℕ → Type 0
AgreesAt trusted asked choice =
    Agrees trusted asked.component (role_matrix asked choice) asked.bound asked.serial

-- on that matrix it differs so
abbrev pub DiffersAt : Component → Asked → Difference → List ℕ → Type 0
DiffersAt trusted asked difference choice =
    IsDifference trusted asked.component (role_matrix asked choice) asked.bound asked.serial
    difference

-- on each matrix of the slice it agrees, and this is their number; or the first on which it does
-- not, and how
abbrev pub IsComparedSlice : Component → Asked → ℕ → ℕ → Comparison → Type 0
IsComparedSlice trusted asked from to (AllAgree count) =
    AreAllSo asked from to (AgreesAt trusted asked) count
IsComparedSlice trusted asked from to (First matrix difference) =
    IsFirstOther asked from to (AgreesAt trusted asked) (DiffersAt trusted asked difference) matrix

-- the limits hold, and this is found
abbrev pub IsCompared : Component → Asked → ℕ → ℕ → Comparison → Type 0
IsCompared trusted asked from to found =
    AreWithinLimits asked.calls asked.candidates × IsComparedSlice trusted asked from to found

-- the matrix that is found is one of the component
abbrev pub IsComparedOf : Component → Comparison → Type 0
IsComparedOf c (AllAgree count) = Unit {0}
IsComparedOf c (First matrix difference) = IsOf matrix c

-- The report of a component and a matrix (Burckhardt, Dern, Musuvathi and Tan, 2010).
use Rattle.std.specs.Prelude.{◌≡◌, ℕ, List, Some, None}
use Rattle.lu_component.specs.Component.{Component}
use Rattle.lu_test.specs.Matrix.{Matrix}
use Rattle.lu_machine.specs.States.{State}
use Rattle.lu_machine.specs.Starts.{FromEachStart}
use Rattle.lu_history.specs.declared.serial.SerialOp.{SerialOp}
use Rattle.lu_serial.specs.Serial.{IsSerialHistory}
use Rattle.lu_serial.specs.Offences.{NoOffence, IsFirstCut, IsFirstConflict, IsSetOf}
use Rattle.lu_serial_graph.specs.declared.learning.LearntGraph.{LearntGraph}
use Rattle.lu_serial_graph.specs.Learning.{IsLearntGraph}
use Rattle.lu_witness.specs.Goodness.{IsFirstBad, AreAllGood, Any}
use Rattle.lu_report.specs.declared.report.Finding.{Finding}
use Rattle.lu_report.specs.declared.report.Finding.TheVariants.{SerialCut, Nondeterministic, Fail, Pass}
use Rattle.lu_report.specs.declared.report.Report.{Report}

-- What is found from the start s, where schedules have up to `bound` moves, and operations run
-- serially take up to `serial` moves after their calls.
abbrev pub IsFinding : State → ℕ → ℕ → Finding → Type 0
IsFinding s bound serial (SerialCut u) = IsFirstCut s serial u
IsFinding s bound serial (Nondeterministic u before earlier) =
    IsFirstConflict s serial u before earlier
IsFinding s bound serial (Fail u why) =
    NoOffence s serial × IsFirstBad (IsSerialHistory s) s bound Any u why
IsFinding s bound serial (Pass counts) =
    NoOffence s serial × AreAllGood (IsSerialHistory s) s bound Any counts

-- the set is that of all serial histories, where the serial runs came to this
abbrev pub IsGraphSet : {A : Type 0} → LearntGraph A → List (List SerialOp) → Type 0
IsGraphSet learnt set = (s : State) (serial : ℕ) → IsLearntGraph s serial learnt → IsSetOf s serial set

-- the finding is a check's with any bound of schedules, where the serial runs came to this
abbrev pub IsGraphOffence : {A : Type 0} → LearntGraph A → Finding → Type 0
IsGraphOffence learnt finding =
    (s : State) (bound serial : ℕ) → IsLearntGraph s serial learnt → IsFinding s bound serial finding

-- r is the report of the component and the matrix with these bounds; it says how many of the
-- component's local instructions run with one move
abbrev pub IsReport : Component → Matrix → ℕ → ℕ → Report → Type 0
IsReport c matrix bound serial r =
    (r.bound ≡ bound) × (r.serial ≡ Some serial) × (r.local ≡ c.local)
    × FromEachStart c matrix (λ s. IsFinding s bound serial r.finding)

-- ---- against a specification

-- What is found from the start s against a set of serial histories that is given: no serial run is
-- made.
abbrev pub IsFindingAgainst : (List SerialOp → Type 0) → State → ℕ → Finding → Type 0
IsFindingAgainst Set s bound (SerialCut u) = ⊥
IsFindingAgainst Set s bound (Nondeterministic u before earlier) = ⊥
IsFindingAgainst Set s bound (Fail u why) = IsFirstBad Set s bound Any u why
IsFindingAgainst Set s bound (Pass counts) = AreAllGood Set s bound Any counts

-- r is the report of the component and the matrix against this set, with this bound
abbrev pub IsReportAgainst : (List SerialOp → Type 0) → Component → Matrix → ℕ → Report → Type 0
IsReportAgainst Set c matrix bound r =
    (r.bound ≡ bound) × (r.serial ≡ None) × (r.local ≡ c.local)
    × FromEachStart c matrix (λ s. IsFindingAgainst Set s bound r.finding)

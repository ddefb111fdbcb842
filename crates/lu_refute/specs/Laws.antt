-- Laws of specifications: what holds whatever deterministic specification somebody has in mind.
use Rattle.std.specs.Prelude.{◌≡◌, ℕ, ◌⊎◌, Bool, false, IsTrue, List, [], ◌∷◌, ◌++◌, length, None}
use Rattle.lu_component.specs.Component.{Component}
use Rattle.lu_test.specs.declared.schedule.Move.{Move}
use Rattle.lu_test.specs.Matrix.{Matrix, calls_of, cut}
use Rattle.lu_machine.specs.States.{State}
use Rattle.lu_machine.specs.Starts.{IsStart, Settles}
use Rattle.lu_history.specs.declared.serial.SerialOp.{SerialOp}
use Rattle.lu_history.specs.declared.serial.SerialOutcome.{SerialOutcome}
use Rattle.lu_trie.specs.Members.{AllSerial, contains}
use Rattle.lu_history.specs.Serial.{IsSerial}
use Rattle.lu_trie.specs.Conflicts.{ConflictAt, IsDeterministic}
use Rattle.lu_serial.specs.Serial.{IsSerialHistory, IsSeriallyEnded, stuck_of}
use Rattle.lu_serial.specs.Offences.{NoOffence, IsSetOf, IsFirstConflict, IsFirstOutside, IsOutside}
use Rattle.lu_witness.specs.Witnesses.{IsMember, IsWitness, entries}
use Rattle.lu_report.specs.declared.report.Finding.{Finding}
use Rattle.lu_report.specs.declared.report.Report.{Report}
use Rattle.lu_replay.specs.Reports.{IsReport}
use Rattle.lu_spec.specs.Specs.{AreOf, FitsMatrix, IsSpec}
use Rattle.lu_serial.specs.Cuts.{AreLengths, IsCutOf}
use Rattle.lu_refute.specs.Linearizable.{IsCounterexample, IsLinearizable, Refutes}
use Rattle.lu_serial.specs.Whole.{IsSeriallyWhole, made_calls}
use Rattle.lu_refute.specs.Answers.{IsAnswer, IsAnswerTo, IsConfirmedFailure, IsFailure}

-- a specification of the matrix
abbrev pub IsMatrixSpec : Matrix → List (List SerialOp) → Type 0
IsMatrixSpec matrix members = IsSpec members × AreOf matrix members

-- each serial history is a member
abbrev pub HasAll : State → List (List SerialOp) → Type 0
HasAll s members = (q : List SerialOp) → IsSerialHistory s q → IsMember members q

-- its last entry is `Stuck`
abbrev pub EndsStuck : List SerialOp → Type 0
EndsStuck q = (before : List SerialOp) × (t : ℕ) × (q ≡ before ++ stuck_of t ∷ [])

-- it ends stuck, or has an entry for each call of the matrix
abbrev pub IsWhole : Matrix → List SerialOp → Type 0
IsWhole matrix q = EndsStuck q ⊎ ((t : ℕ) → length (entries t q) ≡ length (calls_of matrix t))

-- ---- failures

-- Where no serial run offends and a specification has every serial history, it has no other whole
-- ones.
abbrev pub SpecIsSerial : Type 0
SpecIsSerial =
    (c : Component) (matrix : Matrix) (s : State) (bound : ℕ) (members : List (List SerialOp))
    (q : List SerialOp) →
    IsStart c matrix s → NoOffence s bound → IsMatrixSpec matrix members → HasAll s members →
    IsMember members q → IsWhole matrix q → IsSerialHistory s q

-- There a schedule that is not good for the serial histories is not good for the specification.
abbrev pub FailRefutes : Type 0
FailRefutes =
    (c : Component) (matrix : Matrix) (s : State) (bound : ℕ) (members : List (List SerialOp))
    (u : List Move) →
    IsStart c matrix s → NoOffence s bound → IsMatrixSpec matrix members → HasAll s members →
    Refutes (IsSerialHistory s) s u → Refutes (IsMember members) s u

-- ---- serial schedules

-- A serial schedule that ends with a whole entry has no other witness than its own entries.
abbrev pub OwnWitness : Type 0
OwnWitness =
    (c : Component) (matrix : Matrix) (s : State) (u : List Move) (q p : List SerialOp) →
    IsStart c matrix s → (run : IsSeriallyWhole s u q) → IsWitness p run.history → p ≡ q

-- The calls made in a schedule make a cut of the matrix.
abbrev pub MadeCut : Type 0
MadeCut =
    (c : Component) (matrix : Matrix) (s : State) (u : List Move) (q : List SerialOp) →
    IsStart c matrix s → (run : IsSeriallyWhole s u q) → AreLengths matrix (made_calls run.end)

-- Where its entries are no member, it is an ended schedule of the matrix cut to the calls made in
-- it, and not good for the set.
abbrev pub CutRefutes : Type 0
CutRefutes =
    (c : Component) (matrix : Matrix) (s start : State) (members : List (List SerialOp))
    (u : List Move) (q : List SerialOp) →
    IsStart c matrix s → (run : IsSeriallyWhole s u q) → contains members q ≡ false →
    IsStart c (cut matrix (made_calls run.end)) start → Refutes (IsMember members) start u

-- ---- schedules outside a specification

-- Where nothing is outside a specification, a schedule that is not good for the serial histories is
-- not good for it.
abbrev pub FailOutside : Type 0
FailOutside =
    (c : Component) (matrix : Matrix) (s : State) (bound : ℕ) (members : List (List SerialOp))
    (u : List Move) →
    IsStart c matrix s → NoOffence s bound → IsMatrixSpec matrix members
    → IsFirstOutside s bound members None →
    Refutes (IsSerialHistory s) s u → Refutes (IsMember members) s u

-- Where the least serial offence is a conflict, something is outside each deterministic set.
abbrev pub ConflictOutside : Type 0
ConflictOutside =
    (s : State) (bound : ℕ) (members : List (List SerialOp)) (u : List Move) (i : ℕ)
    (o : SerialOutcome) →
    IsFirstConflict s bound u i o → IsDeterministic members
    → (w : List Move) × IsOutside s bound members w

-- A serially ended schedule ends with a whole entry.
abbrev pub OutsideWhole : Type 0
OutsideWhole =
    (s : State) (w : List Move) (q : List SerialOp) → IsSeriallyEnded s w q → IsSeriallyWhole s w q

-- ---- answers

-- The matrix is a cut of itself.
abbrev pub WholeCut : Type 0
WholeCut = (matrix : Matrix) → IsCutOf matrix matrix

-- What is answered to a finding is a counterexample.
abbrev pub AnswerRefutes : Type 0
AnswerRefutes =
    (c : Component) (matrix : Matrix) (s : State) (serial : ℕ) (members : List (List SerialOp))
    (finding : Finding)
    (answer : Matrix × List Move) →
    IsStart c matrix s → IsAnswerTo s serial members finding answer
    → IsCounterexample c matrix (IsMember members) answer

-- One thing is answered to a report.
abbrev pub OneAnswer : Type 0
OneAnswer =
    (c : Component) (matrix : Matrix) (r : Report) (members : List (List SerialOp))
    (a b : Matrix × List Move) →
    Settles c matrix → IsAnswer c matrix r members a → IsAnswer c matrix r members b → a ≡ b

-- Where there is a counterexample the component is not linearizable.
abbrev pub NotLinearizable : Type 0
NotLinearizable =
    (c : Component) (matrix : Matrix) (members : List (List SerialOp))
    (example : Matrix × List Move) →
    Settles c matrix → IsCounterexample c matrix (IsMember members) example
    → IsLinearizable c matrix (IsMember members) → ⊥

-- ---- every specification

-- A set of serial histories that a test tells: no two of them conflict, `Stuck` stands only last,
-- and they fit the matrix.
pub record IsDeterministicOf (matrix : Matrix) (spec : List SerialOp → Bool) : Type 0 where
  pub deterministic : (p q : List SerialOp) (i : ℕ) (o : SerialOutcome) → IsTrue (spec p)
      → IsTrue (spec q) → ConflictAt p q i o → ⊥
  pub serial : (q : List SerialOp) → IsTrue (spec q) → IsSerial q
  pub fits : (q : List SerialOp) → IsTrue (spec q) → FitsMatrix matrix q

-- A failure that a run confirms refutes each of them: by none is the component linearizable.
abbrev pub NoneLinearizable : Type 0
NoneLinearizable =
    (c : Component) (matrix : Matrix) (r : Report) (spec : List SerialOp → Bool) →
    Settles c matrix → IsConfirmedFailure c matrix r →
    IsDeterministicOf matrix spec → IsLinearizable c matrix (λ q. IsTrue (spec q)) → ⊥

-- So does what a check reports: where that is a failure, or nondeterminism, the component is
-- linearizable by none of them.
abbrev pub FailingIsNotLinearizable : Type 0
FailingIsNotLinearizable =
    (c : Component) (matrix : Matrix) (bound serial : ℕ) (r : Report)
    (spec : List SerialOp → Bool) →
    Settles c matrix → IsReport c matrix bound serial r → IsFailure r.finding →
    IsDeterministicOf matrix spec → IsLinearizable c matrix (λ q. IsTrue (spec q)) → ⊥

-- ---- the set of the serial runs

-- The histories of the serial runs, where none offends: no two of them conflict, `Stuck` stands
-- only last, and they fit the matrix.
abbrev pub LearntCloses : Type 0
LearntCloses =
    (c : Component) (matrix : Matrix) (s : State) (bound : ℕ) (members : List (List SerialOp)) →
    IsStart c matrix s → IsSetOf s bound members
    → IsDeterministic members × AllSerial members × AreOf matrix members

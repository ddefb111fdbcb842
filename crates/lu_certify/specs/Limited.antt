-- What is found of a component and a matrix that it can run, within the limits to which both are
-- gone through.
use Rattle.std.specs.Prelude.{ℕ, List, Vec}
use Rattle.lu_component.specs.Component.{Component}
use Rattle.lu_test.specs.Matrix.{Matrix}
use Rattle.lu_machine.specs.declared.test.Test.{Test}
use Rattle.lu_machine.specs.Starts.{FromEachStart}
use Rattle.lu_history.specs.declared.serial.SerialOp.{SerialOp}
use Rattle.lu_report.specs.declared.report.Report.{Report}
use Rattle.lu_replay.specs.Reports.{IsReport}
use Rattle.lu_parallel.specs.Ranges.{Options}
use Rattle.lu_certify.specs.declared.asked.Asked.{Asked}
use Rattle.lu_certify.specs.declared.certificate.Certificate.{Certificate}
use Rattle.lu_certify.specs.declared.limits.Limits.{Limits}
use Rattle.lu_certify.specs.declared.limited.LimitedTest.{LimitedTest}
use Rattle.lu_certify.specs.declared.looked.Looked.{Looked}
use Rattle.lu_certify.specs.declared.looked.Found.{Found}
use Rattle.lu_certify.specs.declared.looked.FoundAt.{FoundAt}
use Rattle.lu_certify.specs.Certificates.{AreBeginnings, IsCertificate, IsCertificateWithin, limits_of}
use Rattle.lu_certify.specs.Looking.{AreAllFoundAt, AreFoundAt, AreKnown, IsFoundAt, IsLooked}
use Rattle.lu_certify.specs.Cuts.{IsWithoutOffence}

-- what is said of its component, its limits and its matrix
abbrev pub OfTest : {X : Type 1} → (Component → Limits → Matrix → X) → LimitedTest → X
OfTest P test = P test.component.now test.limits test.matrix.now

-- its report at the bounds
abbrev pub IsReportAtBounds : Component → Limits → Matrix → Report → Type 0
IsReportAtBounds c limits matrix r = IsReport c matrix limits.bound limits.serial r

-- no serial run of it offends
abbrev pub NoneOffends : LimitedTest → Type 0
NoneOffends test = IsWithoutOffence test.component.now test.matrix.now test.limits.serial

-- the set is that of all beginnings of its serial histories
abbrev pub IsOwnSpec : LimitedTest → List (List SerialOp) → Type 0
IsOwnSpec test members =
    FromEachStart test.component.now test.matrix.now (λ s. AreBeginnings s members)

-- its certificate
abbrev pub IsCertificateOf : LimitedTest → Certificate → Type 0
IsCertificateOf test certificate =
    IsCertificate test.component.now test.matrix.now test.limits certificate

-- ---- of its cuts

-- so it is found of the one with this number
abbrev pub IsFoundIn : LimitedTest → ℕ → Found → Type 0
IsFoundIn test number found =
    IsFoundAt test.component.now test.matrix.now test.limits number found

-- so of each of these, by its number
abbrev pub AreFoundIn : {A : Type 0} → LimitedTest → Vec FoundAt A → Type 0
AreFoundIn test found =
    AreFoundAt test.component.now test.matrix.now test.limits found.items

-- and of each in the lists of all workers
abbrev pub AreAllFoundIn : {A B : Type 0} → LimitedTest → Vec (Vec FoundAt A) B → Type 0
AreAllFoundIn test found =
    AreAllFoundAt test.component.now test.matrix.now test.limits found.items

-- this is known of them, in the order of their numbers
abbrev pub AreKnownIn : {A : Type 0} → LimitedTest → Vec Found A → Type 0
AreKnownIn test known =
    AreKnown test.component.now test.matrix.now test.limits known.items

-- ---- within the bounds of a check's options

-- a cut is looked at so
abbrev pub IsLookedWithin : Test → Asked → Options → ℕ → Looked → Type 0
IsLookedWithin cut asked choice nodes looked =
    IsLooked asked cut.component.now (limits_of choice nodes) cut.matrix.now looked

-- and a matrix certified so
abbrev pub IsCertifiedWithin : Test → Options → ℕ → Certificate → Type 0
IsCertifiedWithin test choice nodes certificate =
    IsCertificateWithin test.component.now test.matrix.now choice nodes certificate

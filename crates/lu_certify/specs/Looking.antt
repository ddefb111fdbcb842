-- What is found of cuts that are looked at, in any order.
use Rattle.std.specs.Prelude.{◌≡◌, ℕ, List, All, Option, None, Some, IfSome, Vec}
use Rattle.std.specs.List.{slice_get}
use Rattle.lu_component.specs.Component.{Component}
use Rattle.lu_test.specs.declared.schedule.Move.{Move}
use Rattle.lu_test.specs.Matrix.{Matrix}
use Rattle.lu_report.specs.declared.report.Report.{Report}
use Rattle.lu_replay.specs.Reports.{IsReport}
use Rattle.lu_certify.specs.declared.asked.Asked.{Asked}
use Rattle.lu_certify.specs.declared.asked.Asked.TheVariants.{Clearness, FailureOnly, LivelockOnly}
use Rattle.lu_certify.specs.declared.limits.Limits.{Limits}
use Rattle.lu_certify.specs.declared.looked.Looked.{Looked}
use Rattle.lu_certify.specs.declared.looked.Looked.TheVariants.{Failing, Stands}
use Rattle.lu_certify.specs.declared.looked.Found.{Found}
use Rattle.lu_certify.specs.declared.looked.FoundAt.{FoundAt}
use Rattle.lu_certify.specs.Certificates.{Fails, IsClear, IsFailingReport}
use Rattle.lu_certify.specs.Cuts.{IsCutAt, IsFirstLostOf, IsJudged, IsLivelockIfAny}

-- it is clear, or this is its report, and it is not
abbrev pub IsClearUnless : Component → Limits → Matrix → Option Report → Type 0
IsClearUnless c limits smaller None = IsClear c limits smaller
IsClearUnless c limits smaller (Some r) =
    IsReport c smaller limits.bound limits.serial r × (IsClear c limits smaller → ⊥)

-- so it is, where that is asked
abbrev pub TellsUnclear : Asked → Component → Limits → Matrix → Option Report → Type 0
TellsUnclear asked c limits smaller unclear =
    asked ≡ Clearness → IsClearUnless c limits smaller unclear

-- its livelock, or none; and, where it has none, whether it is clear: as far as this is asked
abbrev pub IsAnswer : Asked → Component → Limits → Matrix → Option (List Move) → Option Report
    → Type 0
IsAnswer FailureOnly c limits smaller livelock unclear = Unit {0}
IsAnswer LivelockOnly c limits smaller livelock unclear =
    IsLivelockIfAny c limits smaller livelock
IsAnswer Clearness c limits smaller livelock unclear =
    IsLivelockIfAny c limits smaller livelock
    × (livelock ≡ None → IsClearUnless c limits smaller unclear)

-- the report that shows that the cut fails; or it does not fail, and what is asked of it besides
abbrev pub IsLooked : Asked → Component → Limits → Matrix → Looked → Type 0
IsLooked asked c limits smaller (Failing r) = IsFailingReport c limits smaller r
IsLooked asked c limits smaller (Stands livelock unclear) =
    (Fails c limits smaller → ⊥) × IsAnswer asked c limits smaller livelock unclear

-- how the cut is judged, if that was found, and its first lost schedule, if that was sought
abbrev pub IsFound : Component → Limits → Matrix → Found → Type 0
IsFound c limits smaller found =
    IfSome found.judged (IsJudged c limits smaller)
    × IfSome found.lost (IsFirstLostOf c limits smaller)

-- so it is of the cut of the matrix with this number
abbrev pub IsFoundAt : Component → Matrix → Limits → ℕ → Found → Type 0
IsFoundAt c matrix limits number found =
    (smaller : Matrix) → IsCutAt matrix number smaller → IsFound c limits smaller found

-- so it is of each of them, by its number
pub record AreFoundAt (c : Component) (matrix : Matrix) (limits : Limits) (found : List FoundAt) :
    Type 0 where
  pub each : All (λ one. IsFoundAt c matrix limits one.number one.found) found

-- and of each in the lists of all workers
abbrev pub AreAllFoundAt : {A : Type 0} → Component → Matrix → Limits → List (Vec FoundAt A)
    → Type 0
AreAllFoundAt c matrix limits found =
    All (λ list. AreFoundAt c matrix limits list.items) found

-- what is known of cuts, in the order of their numbers
abbrev pub AreKnown : Component → Matrix → Limits → List Found → Type 0
AreKnown c matrix limits known =
    (number : ℕ) (found : Found) → slice_get known number ≡ Some found
    → IsFoundAt c matrix limits number found

-- ---- how that changes, whatever is certified, and within which limits

-- of one cut, after more of it was found
abbrev pub FindsMore : Found → Found → Found → Type 0
FindsMore old more new =
    (c : Component) (limits : Limits) (smaller : Matrix) → IsFound c limits smaller old
    → IsFound c limits smaller more → IsFound c limits smaller new

-- nothing is known
abbrev pub KnowsNone : List Found → Type 0
KnowsNone known =
    (c : Component) (matrix : Matrix) (limits : Limits) → AreKnown c matrix limits known

-- after what was found of one cut more
abbrev pub KnowsOneMore : List Found → FoundAt → List Found → Type 0
KnowsOneMore old one new =
    (c : Component) (matrix : Matrix) (limits : Limits) → AreKnown c matrix limits old
    → IsFoundAt c matrix limits one.number one.found → AreKnown c matrix limits new

-- after what a worker found
abbrev pub KnowsMore : List Found → List FoundAt → List Found → Type 0
KnowsMore old found new =
    (c : Component) (matrix : Matrix) (limits : Limits) → AreKnown c matrix limits old
    → AreFoundAt c matrix limits found → AreKnown c matrix limits new

-- after what all workers found
abbrev pub KnowsAll : {A : Type 0} → List (Vec FoundAt A) → List Found → Type 0
KnowsAll found known =
    (c : Component) (matrix : Matrix) (limits : Limits) → AreAllFoundAt c matrix limits found
    → AreKnown c matrix limits known

-- after some was taken out
abbrev pub KnowsLess : List Found → List Found → Type 0
KnowsLess old new =
    (c : Component) (matrix : Matrix) (limits : Limits) → AreKnown c matrix limits old
    → AreKnown c matrix limits new

-- what was taken out is found of the cut with this number
abbrev pub IsTakenAt : List Found → ℕ → Found → Type 0
IsTakenAt known number taken =
    (c : Component) (matrix : Matrix) (limits : Limits) → AreKnown c matrix limits known
    → IsFoundAt c matrix limits number taken

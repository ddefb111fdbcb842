-- The cuts of a matrix, by their numbers from 0 in the lexicographic order of their lengths; what
-- is found of one cut, and what is known after some.
use Rattle.std.specs.Prelude.{◌≡◌, ◌<◌, ◌≤◌, ℕ, ◌+◌, Bool, true, false, IfOk, Result, List, length, map, Option, Some, None}
use Rattle.lu_choices.specs.Choices.{choice_count, number_in}
use Rattle.lu_component.specs.Component.{Component}
use Rattle.lu_test.specs.declared.schedule.Move.{Move}
use Rattle.lu_test.specs.Matrix.{Matrix, cut}
use Rattle.lu_machine.specs.Starts.{FromEachStart, Settles}
use Rattle.lu_serial.specs.Offences.{NoOffence}
use Rattle.lu_graph.specs.Hopeless.{FindsFirstLost}
use Rattle.lu_graph.specs.declared.lost.FirstLost.{FirstLost}
use Rattle.lu_graph.specs.declared.lost.FirstLost.TheVariants.{First, Never, Unknown}
use Rattle.lu_graph.specs.declared.ending.Ending.{Ending}
use Rattle.lu_graph.specs.declared.ending.Ending.TheVariants.{Badly, TooMany, Well}
use Rattle.lu_report.specs.declared.report.Report.{Report}
use Rattle.lu_report.specs.Limits.{most_moves}
use Rattle.lu_replay.specs.Reports.{IsReport}
use Rattle.lu_serial.specs.Cuts.{AreLengths}
use Rattle.lu_certify.specs.declared.certificate.Certificate.{Certificate}
use Rattle.lu_certify.specs.declared.certificate.Certificate.TheVariants.{Linearizable, Livelock, NotLinearizable, Undecided}
use Rattle.lu_certify.specs.declared.limits.Limits.{Limits}
use Rattle.lu_certify.specs.declared.asked.Asked.{Asked}
use Rattle.lu_certify.specs.declared.asked.Asked.TheVariants.{Clearness, FailureOnly, LivelockOnly}
use Rattle.lu_certify.specs.declared.so_far.SoFar.{SoFar}
use Rattle.lu_certify.specs.declared.so_far.SoFar.TheVariants.{Clear, Lost, Unclear}
use Rattle.lu_certify.specs.declared.judged.Judged.{Judged}
use Rattle.lu_certify.specs.declared.judged.Judged.TheVariants.{Failing, Stands}
use Rattle.lu_certify.specs.declared.judged.Standing.{Standing}
use Rattle.lu_certify.specs.declared.judged.Standing.TheVariants.{FullPass, Good, Open}
use Rattle.lu_certify.specs.declared.by_nodes.ByNodes.{ByNodes}
use Rattle.lu_certify.specs.declared.by_nodes.ByNodes.TheVariants.{AllGood, BadAfter, Nothing}
use Rattle.lu_certify.specs.Certificates.{AreBeginnings, Fails, FailsAfter, HasNoLivelock, HasReport, IsClear, IsFailingReport, IsFullPass, IsLivelock, IsProvedGood, IsLivelockFree}

-- how many lengths a cut can have of each thread: 0 to all of its calls
abbrev pub length_counts : Matrix → List ℕ
length_counts matrix = map (λ calls. length calls + 1) matrix.threads

-- how many cuts there are
abbrev pub cut_count : Matrix → ℕ
cut_count matrix = choice_count (length_counts matrix)

-- the number of the cut of these lengths, from 0: how many cuts come before it
abbrev pub cut_number : Matrix → List ℕ → ℕ
cut_number matrix lengths = number_in (length_counts matrix) lengths

-- the cut with this number
pub record IsCutAt (matrix : Matrix) (number : ℕ) (smaller : Matrix) : Type 0 where
  pub lengths : List ℕ
  pub are : AreLengths matrix lengths
  pub is_at : cut_number matrix lengths ≡ number
  pub is : smaller ≡ cut matrix lengths

-- ---- one cut

-- neither are its schedules proved good, nor does it fail after the bound
pub record IsLeftOpen (c : Component) (limits : Limits) (matrix : Matrix) : Type 0 where
  pub unproved : IsProvedGood c limits matrix → ⊥
  pub unfailing : (moves : ℕ) → FailsAfter c limits matrix moves → ⊥

-- what its nodes show
abbrev pub IsShownByNodes : Component → Limits → Matrix → ByNodes → Type 0
IsShownByNodes c limits matrix AllGood = IsProvedGood c limits matrix
IsShownByNodes c limits matrix (BadAfter moves) = FailsAfter c limits matrix moves
IsShownByNodes c limits matrix Nothing = IsLeftOpen c limits matrix

-- how it stands, where it does not fail
abbrev pub IsStanding : Component → Limits → Matrix → Standing → Type 0
IsStanding c limits matrix FullPass = HasReport IsFullPass c limits.bound limits.serial matrix
IsStanding c limits matrix Good = IsProvedGood c limits matrix
IsStanding c limits matrix (Open r) =
    IsReport c matrix limits.bound limits.serial r × (IsClear c limits matrix → ⊥)
    × (Fails c limits matrix → ⊥)

-- the report that shows that it fails, or how it stands
abbrev pub IsJudged : Component → Limits → Matrix → Judged → Type 0
IsJudged c limits matrix (Failing r) = IsFailingReport c limits matrix r
IsJudged c limits matrix (Stands standing) = IsStanding c limits matrix standing

-- what its nodes show, or none where they show nothing; where that is not tried, none
abbrev pub IsJudgedFirst : Bool → Component → Limits → Matrix → Option Judged → Type 0
IsJudgedFirst tried c limits matrix (Some judged) = IsJudged c limits matrix judged
IsJudgedFirst tried c limits matrix None = tried ≡ true → IsLeftOpen c limits matrix

-- the report of one that stands so, if it is not clear by what is known of its ended schedules
abbrev pub report_of : Standing → Option Report
report_of FullPass = None
report_of Good = None
report_of (Open r) = Some r

-- its livelock, or none where none is found
abbrev pub IsLivelockIfAny : Component → Limits → Matrix → Option (List Move) → Type 0
IsLivelockIfAny c limits matrix None = HasNoLivelock c limits matrix
IsLivelockIfAny c limits matrix (Some u) = IsLivelock c limits matrix u

-- what is found of its schedules that lead to a state from which none ends
abbrev pub IsFirstLostOf : Component → Limits → Matrix → FirstLost → Type 0
IsFirstLostOf c limits matrix lost =
    FromEachStart c matrix (λ s. FindsFirstLost limits.nodes s lost)

-- ---- the cuts so far

-- what is asked of the next one
abbrev pub asked_by : SoFar → Asked
asked_by Clear = Clearness
asked_by (Unclear smaller r) = LivelockOnly
asked_by (Lost smaller u) = FailureOnly

-- After one cut more, with this livelock or none, and with this report where it is not clear: the
-- first livelock stays, and else the first that is not clear.
abbrev pub so_far_after : SoFar → Matrix → Option (List Move) → Option Report → SoFar
so_far_after (Lost smaller u) matrix livelock unclear = Lost smaller u
so_far_after (Unclear smaller q) matrix None unclear = Unclear smaller q
so_far_after (Unclear smaller q) matrix (Some u) unclear = Lost matrix u
so_far_after Clear matrix None None = Clear
so_far_after Clear matrix None (Some r) = Unclear matrix r
so_far_after Clear matrix (Some u) unclear = Lost matrix u

-- `new` is known after this cut, where `old` was before it
abbrev pub IsNext : Component → Limits → SoFar → Matrix → SoFar → Type 0
IsNext c limits (Lost smaller u) matrix new = new ≡ Lost smaller u
IsNext c limits (Unclear smaller r) matrix Clear = ⊥
IsNext c limits (Unclear smaller r) matrix (Unclear other q) =
    (Unclear other q ≡ Unclear smaller r) × HasNoLivelock c limits matrix
IsNext c limits (Unclear smaller r) matrix (Lost other u) =
    (other ≡ matrix) × IsLivelock c limits matrix u
IsNext c limits Clear matrix Clear = HasNoLivelock c limits matrix × IsClear c limits matrix
IsNext c limits Clear matrix (Unclear other r) =
    (other ≡ matrix) × HasNoLivelock c limits matrix
    × IsReport c matrix limits.bound limits.serial r
    × (IsClear c limits matrix → ⊥)
IsNext c limits Clear matrix (Lost other u) = (other ≡ matrix) × IsLivelock c limits matrix u

-- ---- what the steps of a round answer

-- no serial run offends
abbrev pub IsWithoutOffence : Component → Matrix → ℕ → Type 0
IsWithoutOffence c matrix serial = FromEachStart c matrix (λ s. NoOffence s serial)

-- how schedules end, searched up to the bound, shows this much
abbrev pub IsByNodesOf : ℕ → Ending → ByNodes → Type 0
IsByNodesOf bound Well shown = shown ≡ AllGood
IsByNodesOf bound (Badly moves) AllGood = ⊥
IsByNodesOf bound (Badly moves) (BadAfter n) =
    (n ≡ moves) × (bound < moves) × (moves ≤ most_moves)
IsByNodesOf bound (Badly moves) Nothing = bound < moves → most_moves < moves
IsByNodesOf bound TooMany shown = shown ≡ Nothing

-- a cut that stands so has no serial run that offends; or, where it asks for no lost schedule, no
-- livelock
abbrev pub AsksForLost : Standing → Bool → Type 0
AsksForLost standing true =
    (c : Component) (limits : Limits) (matrix : Matrix) → Settles c matrix
    → IsStanding c limits matrix standing → IsWithoutOffence c matrix limits.serial
AsksForLost standing false =
    (c : Component) (limits : Limits) (matrix : Matrix) → Settles c matrix
    → IsStanding c limits matrix standing → HasNoLivelock c limits matrix

-- What is found of the livelock of a cut that stands so: that no schedule leads to a state from
-- which none ends; or its livelock; or that none is found. Then, where its schedules are proved
-- good, it is not known to be free of livelocks.
abbrev pub IsLivelockOf : Component → Limits → Matrix → Standing → FirstLost → Type 0
IsLivelockOf c limits matrix standing Never = IsLivelockFree c limits matrix
IsLivelockOf c limits matrix standing (First u) = IsLivelock c limits matrix u
IsLivelockOf c limits matrix standing Unknown =
    HasNoLivelock c limits matrix × (standing ≡ Good → IsLivelockFree c limits matrix → ⊥)

-- so it is of the result, if there is one, where the cut stands so
abbrev pub SeeksLivelock : {E : Type 0} → Component → Limits → Matrix → Standing
    → Result FirstLost E → Type 0
SeeksLivelock c limits matrix standing result =
    IsStanding c limits matrix standing → IfOk result (IsLivelockOf c limits matrix standing)

-- ---- at the end

-- Where no cut fails: the first livelock is shown, or the first that is not clear; where there is
-- neither, the beginnings of the serial histories are the set.
abbrev pub IsConcluded : Component → Matrix → SoFar → Certificate → Type 0
IsConcluded c matrix (Lost smaller u) certificate = certificate ≡ Livelock smaller u
IsConcluded c matrix (Unclear smaller r) certificate = certificate ≡ Undecided smaller r
IsConcluded c matrix Clear (Linearizable members) =
    FromEachStart c matrix (λ s. AreBeginnings s members)
IsConcluded c matrix Clear (NotLinearizable smaller r) = ⊥
IsConcluded c matrix Clear (Livelock smaller u) = ⊥
IsConcluded c matrix Clear (Undecided smaller r) = ⊥

-- Certificates: what the reports of all cuts of a matrix say together.
use Rattle.std.specs.Prelude.{◌≡◌, ◌↔◌, ◌<◌, ◌≤◌, ◌⊎◌, ℕ, List}
use Rattle.lu_choices.specs.Choices.{IsBefore}
use Rattle.lu_component.specs.Component.{Component}
use Rattle.lu_test.specs.declared.schedule.Move.{Move}
use Rattle.lu_test.specs.Matrix.{IsOf, Matrix, cut}
use Rattle.lu_machine.specs.States.{State}
use Rattle.lu_machine.specs.Starts.{FromEachStart}
use Rattle.lu_history.specs.declared.serial.SerialOp.{SerialOp}
use Rattle.lu_serial.specs.Offences.{NoOffence}
use Rattle.lu_serial.specs.Serial.{IsSerialHistory}
use Rattle.lu_graph.specs.Hopeless.{HasFewStates, IsFirstLost, NeverLosesHope}
use Rattle.lu_graph.specs.Nodes.{EndsWellOnFewNodes, HasFewNodes, IsShortestBad}
use Rattle.lu_report.specs.declared.report.Finding.{Finding}
use Rattle.lu_report.specs.declared.report.Report.{Report}
use Rattle.lu_report.specs.Limits.{most_moves}
use Rattle.lu_replay.specs.Reports.{IsReport}
pub use Rattle.lu_report.specs.Parts.{IsFailure, IsFullPass}
use Rattle.lu_parallel.specs.Ranges.{Options}
use Rattle.lu_spec.specs.Beginnings.{Begins, Has}
use Rattle.lu_serial.specs.Cuts.{AreLengths}
use Rattle.lu_certify.specs.declared.certificate.Certificate.{Certificate}
use Rattle.lu_certify.specs.declared.limits.Limits.{Limits}
use Rattle.lu_certify.specs.declared.certificate.Certificate.TheVariants.{Linearizable, Livelock, NotLinearizable, Undecided}

-- ---- the reports of all cuts

-- the report of the matrix is of this kind
abbrev pub HasReport : (Finding → Type 0) → Component → ℕ → ℕ → Matrix → Type 0
HasReport Kind c bound serial matrix =
    (r : Report) × IsReport c matrix bound serial r × Kind r.finding

-- the report of each cut of the matrix is of this kind
abbrev pub AllCuts : (Finding → Type 0) → Component → Matrix → ℕ → ℕ → Type 0
AllCuts Kind c matrix bound serial =
    (lengths : List ℕ) → AreLengths matrix lengths
    → HasReport Kind c bound serial (cut matrix lengths)

-- No serial run offends, there are no more nodes than the limit, and each ended schedule, of any
-- length, is good for the serial histories.
abbrev pub IsProvedGood : Component → Limits → Matrix → Type 0
IsProvedGood c limits matrix =
    FromEachStart c matrix (λ s. NoOffence s limits.serial
    × EndsWellOnFewNodes (IsSerialHistory s) s limits.nodes)

-- There are no more states than the limit, and no schedule, of any length, leads to a state from
-- which none ends.
abbrev pub IsLivelockFree : Component → Limits → Matrix → Type 0
IsLivelockFree c limits matrix =
    FromEachStart c matrix (λ s. HasFewStates s limits.nodes × NeverLosesHope s)

-- its report is a pass, and no schedule was cut; or its schedules are proved good, and it is free of
-- livelocks
abbrev pub IsClear : Component → Limits → Matrix → Type 0
IsClear c limits matrix =
    HasReport IsFullPass c limits.bound limits.serial matrix
    ⊎ (IsProvedGood c limits matrix × IsLivelockFree c limits matrix)

-- No serial run offends, there are no more nodes than the limit, and the shortest schedule that
-- ends badly has this many moves: more than the bound, and at most 256.
abbrev pub FailsAfter : Component → Limits → Matrix → ℕ → Type 0
FailsAfter c limits matrix moves =
    (limits.bound < moves) × (moves ≤ most_moves)
    × FromEachStart c matrix (λ s. NoOffence s limits.serial
    × HasFewNodes (IsSerialHistory s) s limits.nodes
    × IsShortestBad (IsSerialHistory s) s moves)

-- r shows that the matrix fails: it is its report at the bounds, and a failure; or it is its report
-- at the length of the shortest schedule that ends badly, where that lies after the bound
abbrev pub IsFailingReport : Component → Limits → Matrix → Report → Type 0
IsFailingReport c limits matrix r =
    (IsReport c matrix limits.bound limits.serial r × IsFailure r.finding)
    ⊎ ((moves : ℕ) × FailsAfter c limits matrix moves × IsReport c matrix moves limits.serial r)

-- a report shows that the matrix fails
abbrev pub Fails : Component → Limits → Matrix → Type 0
Fails c limits matrix = (r : Report) × IsFailingReport c limits matrix r

-- no cut of the matrix fails
abbrev pub NoneFails : Component → Matrix → Limits → Type 0
NoneFails c matrix limits =
    (lengths : List ℕ) → AreLengths matrix lengths → Fails c limits (cut matrix lengths) → ⊥

-- each cut of the matrix is clear
abbrev pub AllClear : Component → Matrix → Limits → Type 0
AllClear c matrix limits =
    (lengths : List ℕ) → AreLengths matrix lengths → IsClear c limits (cut matrix lengths)

-- No serial run offends, there are no more states than the limit, and u is the first schedule that
-- leads to a state from which no schedule ends.
abbrev pub IsLivelock : Component → Limits → Matrix → List Move → Type 0
IsLivelock c limits matrix u =
    FromEachStart c matrix (λ s. NoOffence s limits.serial × HasFewStates s limits.nodes
    × IsFirstLost s u)

-- none is found
abbrev pub HasNoLivelock : Component → Limits → Matrix → Type 0
HasNoLivelock c limits matrix = (u : List Move) → IsLivelock c limits matrix u → ⊥

-- nor of any cut of the matrix
abbrev pub NoLivelocks : Component → Matrix → Limits → Type 0
NoLivelocks c matrix limits =
    (lengths : List ℕ) → AreLengths matrix lengths
    → HasNoLivelock c limits (cut matrix lengths)

-- r shows that this cut fails; none before it does, in the lexicographic order of lengths, thread
-- 0's first
pub record IsFirstFailing (c : Component) (matrix : Matrix) (limits : Limits)
    (smaller : Matrix) (r : Report) : Type 0 where
  pub lengths : List ℕ
  pub are : AreLengths matrix lengths
  pub is : smaller ≡ cut matrix lengths
  pub fails : IsFailingReport c limits smaller r
  pub before : (other : List ℕ) → AreLengths matrix other → IsBefore other lengths
      → Fails c limits (cut matrix other) → ⊥

-- r is the report of this cut at the bounds, which is not clear; each cut before it is
pub record IsFirstUnclear (c : Component) (matrix : Matrix) (limits : Limits)
    (smaller : Matrix) (r : Report) : Type 0 where
  pub lengths : List ℕ
  pub are : AreLengths matrix lengths
  pub is : smaller ≡ cut matrix lengths
  pub report : IsReport c smaller limits.bound limits.serial r
  pub unclear : IsClear c limits smaller → ⊥
  pub before : (other : List ℕ) → AreLengths matrix other → IsBefore other lengths
      → IsClear c limits (cut matrix other)

-- u is the livelock of this cut; none is found of any cut before it
pub record IsFirstLivelock (c : Component) (matrix : Matrix) (limits : Limits)
    (smaller : Matrix) (u : List Move) : Type 0 where
  pub lengths : List ℕ
  pub are : AreLengths matrix lengths
  pub is : smaller ≡ cut matrix lengths
  pub livelock : IsLivelock c limits smaller u
  pub before : (other : List ℕ) → AreLengths matrix other → IsBefore other lengths
      → HasNoLivelock c limits (cut matrix other)

-- ---- the certificate

-- the members are the beginnings of the serial histories
abbrev pub AreBeginnings : State → List (List SerialOp) → Type 0
AreBeginnings s members =
    (q : List SerialOp)
    → Has members q ↔ ((h : List SerialOp) × Begins q h × IsSerialHistory s h)

-- Each cut is clear, and these are the beginnings of the matrix's serial histories; or this is the
-- first cut that fails; or none fails, and this is the first that has a livelock; or none fails, no
-- livelock is found, and this is the first that is not clear.
abbrev pub IsCertificate : Component → Matrix → Limits → Certificate → Type 0
IsCertificate c matrix limits (Linearizable members) =
    AllClear c matrix limits × FromEachStart c matrix (λ s. AreBeginnings s members)
IsCertificate c matrix limits (NotLinearizable smaller r) =
    IsFirstFailing c matrix limits smaller r
IsCertificate c matrix limits (Livelock smaller u) =
    NoneFails c matrix limits × IsFirstLivelock c matrix limits smaller u
IsCertificate c matrix limits (Undecided smaller r) =
    NoneFails c matrix limits × NoLivelocks c matrix limits
    × IsFirstUnclear c matrix limits smaller r

-- the bounds of a check's options, and this many nodes
abbrev pub limits_of : Options → ℕ → Limits
limits_of choice nodes =
    record { bound = choice.bound; serial = choice.serial; nodes = nodes }

-- within the bounds of a check's options
abbrev pub IsCertificateWithin : Component → Matrix → Options → ℕ → Certificate → Type 0
IsCertificateWithin c matrix choice nodes certificate =
    IsCertificate c matrix (limits_of choice nodes) certificate

-- the cut that it names, if any, is a matrix of the component
abbrev pub NamesCutOf : Component → Certificate → Type 0
NamesCutOf c (Linearizable members) = Unit {0}
NamesCutOf c (NotLinearizable smaller r) = IsOf smaller c
NamesCutOf c (Livelock smaller u) = IsOf smaller c
NamesCutOf c (Undecided smaller r) = IsOf smaller c

-- two certificates say the same: those of sets have the same members
abbrev pub AreSame : Certificate → Certificate → Type 0
AreSame (Linearizable members) (Linearizable others) =
    (q : List SerialOp) → Has members q ↔ Has others q
AreSame (Linearizable members) (NotLinearizable smaller r) = ⊥
AreSame (Linearizable members) (Livelock smaller u) = ⊥
AreSame (Linearizable members) (Undecided smaller r) = ⊥
AreSame (NotLinearizable smaller r) b = NotLinearizable smaller r ≡ b
AreSame (Livelock smaller u) b = Livelock smaller u ≡ b
AreSame (Undecided smaller r) b = Undecided smaller r ≡ b

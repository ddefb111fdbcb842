-- Laws of components that differ in `local` alone.
use Rattle.std.specs.Prelude.{◌≡◌, ◌↔◌, ◌≤◌, ◌+◌, ◌*◌, ℕ, Bool, IsTrue, List, length}
use Rattle.lu_component.specs.Component.{Component}
use Rattle.lu_test.specs.declared.schedule.Move.{Move}
use Rattle.lu_test.specs.Matrix.{Matrix}
use Rattle.lu_machine.specs.declared.event.Event.{Event}
use Rattle.lu_machine.specs.States.{State}
use Rattle.lu_machine.specs.Starts.{FromEachStart, IsStart, Settles}
use Rattle.lu_machine.specs.Runs.{Leads}
use Rattle.lu_machine.specs.Ends.{IsComplete, IsEnded, IsStuck}
use Rattle.lu_machine.specs.Schedules.{IsCutAt, IsSchedule, Reaches}
use Rattle.lu_history.specs.declared.serial.SerialOp.{SerialOp}
use Rattle.lu_history.specs.declared.serial.SerialOutcome.{SerialOutcome}
use Rattle.lu_serial.specs.Serial.{IsSerialHistory}
use Rattle.lu_serial.specs.Offences.{IsFirstConflict, IsSetOf}
use Rattle.lu_graph.specs.Hopeless.{IsHopeless, LosesHope}
use Rattle.lu_witness.specs.Goodness.{IsGoodAt}
use Rattle.lu_report.specs.declared.report.Report.{Report}
use Rattle.lu_replay.specs.Reports.{IsReport}
use Rattle.lu_spec.specs.Beginnings.{Has}
use Rattle.lu_refute.specs.Answers.{IsFailure}
use Rattle.lu_refute.specs.Laws.{IsDeterministicOf}
use Rattle.lu_serial.specs.Cuts.{IsCutOf}
use Rattle.lu_refute.specs.Linearizable.{IsLinearizable}
use Rattle.lu_certify.specs.declared.certificate.Certificate.{Certificate}
use Rattle.lu_certify.specs.declared.certificate.Certificate.TheVariants.{Linearizable, Livelock, NotLinearizable, Undecided}
use Rattle.lu_certify.specs.declared.limits.Limits.{Limits}
use Rattle.lu_certify.specs.Certificates.{AreBeginnings, IsCertificate, IsFullPass}
use Rattle.lu_certify.specs.Laws.{Decides}
use Rattle.lu_grain.specs.Grains.{grained, with_local}

-- ---- schedules

-- With `local n` a schedule of at most this many moves leads from s to the same end, with the same
-- history.
pub record LeadsToo (s : State) (n : ℕ) (end : State) (history : List Event) (most : ℕ)
    : Type 0 where
  pub moves : List Move
  pub leads : Leads (grained s n) moves (grained end n) history
  pub few : length moves ≤ most

-- Each ended schedule has one with `local n`, from the same state to the same end, with the same
-- history.
abbrev pub SameEnds : Type 0
SameEnds =
    (s : State) (n : ℕ) (u : List Move) (end : State) (history : List Event) →
    Leads s u end history → IsEnded end
    → LeadsToo s n end history ((s.component.local + 1) * length u)

-- With more local instructions to a move it is no longer.
abbrev pub NoLonger : Type 0
NoLonger =
    (s : State) (n : ℕ) (u : List Move) (end : State) (history : List Event) →
    Leads s u end history → IsEnded end → s.component.local ≤ n
    → LeadsToo s n end history (length u)

-- The same state is complete in both, or in neither, and so it is stuck.
abbrev pub SameWay : Type 0
SameWay =
    (s : State) (n : ℕ)
    → (IsComplete s ↔ IsComplete (grained s n)) × (IsStuck s ↔ IsStuck (grained s n))

-- Where no schedule is cut at the bound, each with `local n` comes to an end: none has more than so
-- many moves.
abbrev pub EndsToo : Type 0
EndsToo =
    (s : State) (n bound : ℕ) (u : List Move) →
    ((v : List Move) → IsCutAt s bound v → ⊥) → IsSchedule (grained s n) u
    → length u ≤ (s.component.local + 1) * bound

-- ---- starts

-- Where both setups settle, both start alike.
abbrev pub SameStart : Type 0
SameStart =
    (c : Component) (n : ℕ) (matrix : Matrix) (s other : State) →
    IsStart c matrix s → IsStart (with_local c n) matrix other → other ≡ grained s n

-- A setup that settles does so with more local instructions to a move.
abbrev pub SettlesFurther : Type 0
SettlesFurther =
    (c : Component) (n : ℕ) (matrix : Matrix) →
    Settles c matrix → c.local ≤ n → Settles (with_local c n) matrix

-- ---- serial histories

-- The serial histories are the same.
abbrev pub SerialAlike : Type 0
SerialAlike =
    (s : State) (n : ℕ) (q : List SerialOp) → IsSerialHistory s q ↔ IsSerialHistory (grained s n) q

-- So are their beginnings.
abbrev pub BeginningsAlike : Type 0
BeginningsAlike =
    (s : State) (n : ℕ) (members : List (List SerialOp)) → AreBeginnings s members
    → AreBeginnings (grained s n) members

-- What two bounds tell of them agrees: two sets have the same members.
abbrev pub SetsAlike : Type 0
SetsAlike =
    (s : State) (n bound within : ℕ) (members others : List (List SerialOp)) (q : List SerialOp) →
    IsSetOf s bound members → IsSetOf (grained s n) within others → Has members q ↔ Has others q

-- And where the least serial offence is a conflict, there is no set with `local n`.
abbrev pub ConflictsToo : Type 0
ConflictsToo =
    (s : State) (n bound within : ℕ) (members : List (List SerialOp)) (u : List Move) (i : ℕ)
    (o : SerialOutcome) →
    IsFirstConflict s bound u i o → IsSetOf (grained s n) within members → ⊥

-- ---- good schedules

-- each ended schedule, of any length, is good for the set
abbrev pub AllEndedGood : State → (List SerialOp → Type 0) → Type 0
AllEndedGood s Set =
    (u : List Move) → Reaches s u (λ end _. IsEnded end) → Reaches s u (IsGoodAt Set)

-- Where each ended schedule is good, so is each with `local n`.
abbrev pub GoodToo : Type 0
GoodToo =
    (s : State) (n : ℕ) (spec : List SerialOp → Bool) →
    AllEndedGood s (λ q. IsTrue (spec q)) → AllEndedGood (grained s n) (λ q. IsTrue (spec q))

-- Where the component is linearizable, it is with `local n`.
abbrev pub LinearizableToo : Type 0
LinearizableToo =
    (c : Component) (n : ℕ) (matrix : Matrix) (spec : List SerialOp → Bool) →
    Settles c matrix → IsLinearizable c matrix (λ q. IsTrue (spec q))
    → IsLinearizable (with_local c n) matrix (λ q. IsTrue (spec q))

-- So where both setups settle, the one is linearizable exactly where the other is.
abbrev pub LinearizableAlike : Type 0
LinearizableAlike =
    (c : Component) (n : ℕ) (matrix : Matrix) (spec : List SerialOp → Bool) →
    Settles c matrix → Settles (with_local c n) matrix →
    IsLinearizable c matrix (λ q. IsTrue (spec q))
    ↔ IsLinearizable (with_local c n) matrix (λ q. IsTrue (spec q))

-- Where a check passes, with no schedule cut, each ended schedule with `local n` has its witnesses
-- among the serial histories.
abbrev pub PassesToo : Type 0
PassesToo =
    (c : Component) (n : ℕ) (matrix : Matrix) (bound serial : ℕ) (r : Report) →
    Settles c matrix → IsReport c matrix bound serial r → IsFullPass r.finding →
    FromEachStart (with_local c n) matrix (λ s. AllEndedGood s (IsSerialHistory s))

-- And each schedule with `local n` comes to an end.
abbrev pub PassesEnd : Type 0
PassesEnd =
    (c : Component) (n : ℕ) (matrix : Matrix) (bound serial : ℕ) (r : Report) →
    Settles c matrix → IsReport c matrix bound serial r → IsFullPass r.finding →
    FromEachStart (with_local c n) matrix (λ s.
    (u : List Move) → IsSchedule s u → length u ≤ (c.local + 1) * bound)

-- Where a check fails, or finds nondeterminism, the component is with `local n` too linearizable by
-- no deterministic set.
abbrev pub FailureRefutesToo : Type 0
FailureRefutesToo =
    (c : Component) (n : ℕ) (matrix : Matrix) (bound serial : ℕ) (r : Report)
    (spec : List SerialOp → Bool) →
    Settles c matrix → Settles (with_local c n) matrix →
    IsReport c matrix bound serial r → IsFailure r.finding → IsDeterministicOf matrix spec
    → IsLinearizable (with_local c n) matrix (λ q. IsTrue (spec q)) → ⊥

-- ---- where nothing ends

-- No schedule ends from the state exactly where none does with `local n`.
abbrev pub HopelessAlike : Type 0
HopelessAlike = (s : State) (n : ℕ) → IsHopeless s ↔ IsHopeless (grained s n)

-- Where a schedule leads to such a state, one does with `local n`.
abbrev pub LosesHopeToo : Type 0
LosesHopeToo =
    (s : State) (n : ℕ) (u : List Move) → LosesHope s u
    → (v : List Move) × LosesHope (grained s n) v

-- ---- certificates

-- smaller is a cut of the matrix, and on it some schedule leads to a state from which none ends
abbrev pub SomeLosesHope : Component → Matrix → Matrix → Type 0
SomeLosesHope c matrix smaller =
    IsCutOf matrix smaller × FromEachStart c smaller (λ s. (v : List Move) × LosesHope s v)

-- What a certificate decides of the component, where it is one with another number of local
-- instructions to a move: the same, but that a livelock has a schedule of its own.
abbrev pub DecidesAlike : Component → Matrix → Certificate → Type 0
DecidesAlike c matrix (Linearizable members) = Decides c matrix (Linearizable members)
DecidesAlike c matrix (NotLinearizable smaller r) = Decides c matrix (NotLinearizable smaller r)
DecidesAlike c matrix (Livelock smaller u) = SomeLosesHope c matrix smaller
DecidesAlike c matrix (Undecided smaller r) = Unit {0}

-- So a certificate decides of the component with `local n`.
abbrev pub DecidesToo : Type 0
DecidesToo =
    (c : Component) (n : ℕ) (matrix : Matrix) (limits : Limits) (certificate : Certificate) →
    Settles c matrix → Settles (with_local c n) matrix →
    IsCertificate c matrix limits certificate
    → DecidesAlike (with_local c n) matrix certificate

-- Two certificates don't contradict: those of sets have the same members, and where one has a set,
-- the other neither fails nor has a livelock. Limits and bounds may hide a failure or a livelock from
-- the other, which then has a livelock or is undecided.
abbrev pub Agree : Certificate → Certificate → Type 0
Agree (Linearizable members) (Linearizable others) =
    (q : List SerialOp) → Has members q ↔ Has others q
Agree (Linearizable members) (NotLinearizable smaller r) = ⊥
Agree (Linearizable members) (Livelock smaller u) = ⊥
Agree (Linearizable members) (Undecided smaller r) = Unit {0}
Agree (NotLinearizable smaller r) (Linearizable others) = ⊥
Agree (NotLinearizable smaller r) (NotLinearizable other q) = Unit {0}
Agree (NotLinearizable smaller r) (Livelock other u) = Unit {0}
Agree (NotLinearizable smaller r) (Undecided other q) = Unit {0}
Agree (Livelock smaller u) (Linearizable others) = ⊥
Agree (Livelock smaller u) (NotLinearizable other q) = Unit {0}
Agree (Livelock smaller u) (Livelock other v) = Unit {0}
Agree (Livelock smaller u) (Undecided other q) = Unit {0}
Agree (Undecided smaller r) b = Unit {0}

-- A certificate and one with `local n` never contradict, whatever their limits.
abbrev pub CertificatesAgree : Type 0
CertificatesAgree =
    (c : Component) (n : ℕ) (matrix : Matrix) (limits others : Limits)
    (a b : Certificate) →
    Settles c matrix → Settles (with_local c n) matrix → IsCertificate c matrix limits a →
    IsCertificate (with_local c n) matrix others b → Agree a b

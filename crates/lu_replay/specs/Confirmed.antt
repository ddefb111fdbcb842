-- Reports that a run confirms.
use Rattle.std.specs.Prelude.{◌≡◌, ◌↔◌, ℕ, Bool, List, None, Result, IsSomeAnd, IsTrue, IfOk}
use Rattle.lu_component.specs.Component.{Component}
use Rattle.lu_test.specs.declared.schedule.Move.{Move}
use Rattle.lu_test.specs.Matrix.{Matrix}
use Rattle.lu_machine.specs.declared.event.Status.{Status}
use Rattle.lu_machine.specs.declared.event.Status.TheVariants as status
use Rattle.lu_machine.specs.States.{State}
use Rattle.lu_machine.specs.declared.test.Test.{Test}
use Rattle.lu_machine.specs.Starts.{FromEachStart}
use Rattle.lu_machine.specs.Tests.{FromEachStartOf, IsStartOf}
use Rattle.lu_history.specs.declared.serial.SerialOp.{SerialOp}
use Rattle.lu_serial.specs.Serial.{IsSerialHistory}
use Rattle.lu_serial.specs.Offences.{NoOffence, IsFirstCut, IsFirstConflict}
use Rattle.lu_serial_graph.specs.declared.learning.LearntGraph.{LearntGraph}
use Rattle.lu_serial_graph.specs.Learning.{IsLearntGraph}
use Rattle.lu_witness.specs.declared.judgement.Verdict.{Verdict}
use Rattle.lu_witness.specs.declared.judgement.Verdict.TheVariants.{NoWitness, NoWitnessFor}
use Rattle.lu_witness.specs.declared.judgement.Why.{Why}
use Rattle.lu_witness.specs.declared.judgement.Why.TheVariants.{Complete, Stuck}
use Rattle.lu_witness.specs.Witnesses.{IsMember}
use Rattle.lu_witness.specs.Goodness.{IsBad, IsWhy}
use Rattle.lu_report.specs.declared.report.Finding.{Finding}
use Rattle.lu_report.specs.declared.report.Finding.TheVariants.{SerialCut, Nondeterministic, Fail, Pass}
use Rattle.lu_report.specs.declared.report.Report.{Report}
use Rattle.lu_replay.specs.declared.confirming.Claim.{Claim}

-- u is bad, and this is why
abbrev pub IsBadFor : (List SerialOp → Type 0) → State → ℕ → List Move → Why → Type 0
IsBadFor Set s bound u why = IsBad Set s bound u × IsWhy Set s u why

-- The least serial offence is as it is said, or there is none and the schedule is bad as it is
-- said; it need not be the least. A pass shows nothing.
abbrev pub IsShown : State → ℕ → ℕ → Finding → Type 0
IsShown s bound serial (SerialCut u) = IsFirstCut s serial u
IsShown s bound serial (Nondeterministic u before earlier) =
    IsFirstConflict s serial u before earlier
IsShown s bound serial (Fail u why) =
    NoOffence s serial × IsBadFor (IsSerialHistory s) s bound u why
IsShown s bound serial (Pass counts) = ⊥

-- what it says with this bound of serial runs is shown
abbrev pub IsShownWith : Component → Matrix → Report → ℕ → Type 0
IsShownWith c matrix r serial = FromEachStart c matrix (λ s. IsShown s r.bound serial r.finding)

-- as many local instructions of the component run with one move as the report says; it has a bound
-- of serial runs; and what else it says is shown, with its own bounds
abbrev pub IsConfirmed : Component → Matrix → Report → Type 0
IsConfirmed c matrix r = (r.local ≡ c.local) × IsSomeAnd r.serial (IsShownWith c matrix r)

-- ---- against a specification

-- A failure is shown where the schedule is bad for the set, as it is said; it need not be the
-- least. Nothing else is shown.
abbrev pub IsShownAgainst : (List SerialOp → Type 0) → State → ℕ → Finding → Type 0
IsShownAgainst Set s bound (SerialCut u) = ⊥
IsShownAgainst Set s bound (Nondeterministic u before earlier) = ⊥
IsShownAgainst Set s bound (Fail u why) = IsBadFor Set s bound u why
IsShownAgainst Set s bound (Pass counts) = ⊥

-- the report is one against a specification, with as many local instructions as the component has,
-- and what it says is shown against this set, with its own bound
abbrev pub IsConfirmedAgainst : (List SerialOp → Type 0) → Component → Matrix → Report → Type 0
IsConfirmedAgainst Set c matrix r =
    (r.local ≡ c.local) × (r.serial ≡ None)
    × FromEachStart c matrix (λ s. IsShownAgainst Set s r.bound r.finding)

-- a run that ended so, with this verdict, fails for this reason
abbrev pub IsReason : Status → Verdict → Why → Type 0
IsReason end verdict Complete = (end ≡ status.Complete) × (verdict ≡ NoWitness)
IsReason end verdict (Stuck t) = (end ≡ status.Stuck) × (verdict ≡ NoWitnessFor t)

-- ---- answers of yes or no

-- the answer is yes where this holds, and else no
abbrev pub SaysWhether : {E : Type 0} → Result Bool E → Type 0 → Type 0
SaysWhether result Holds = IfOk result (λ yes. IsTrue yes ↔ Holds)

-- the schedule is bad as it is claimed
abbrev pub IsBadAs : (List SerialOp → Type 0) → State → Claim → Type 0
IsBadAs Set s claim = IsBadFor Set s claim.bound claim.schedule.now claim.why

-- whether the schedule is bad for the set with these members, as it is claimed
abbrev pub SaysBad : {E : Type 0} → Test → List (List SerialOp) → Claim → Result Bool E → Type 0
SaysBad test members claim result =
    FromEachStartOf test (λ s. SaysWhether result (IsBadAs (IsMember members) s claim))

-- whether the finding is shown, where the serial runs came to this
abbrev pub SaysShown : {A E : Type 0} → Test → LearntGraph A → ℕ → Finding → Result Bool E → Type 0
SaysShown test learnt bound f result =
    (s : State) (serial : ℕ) → IsStartOf test s → IsLearntGraph s serial learnt
    → SaysWhether result (IsShown s bound serial f)

-- whether what the report says is shown, with this bound of serial runs
abbrev pub SaysShownWith : {E : Type 0} → Test → Report → ℕ → Result Bool E → Type 0
SaysShownWith test r serial result =
    SaysWhether result (IsShownWith test.component.now test.matrix.now r serial)

-- whether the finding is shown against the set with these members
abbrev pub SaysShownBy : {E : Type 0} → Test → List (List SerialOp) → ℕ → Finding → Result Bool E
    → Type 0
SaysShownBy test members bound f result =
    FromEachStartOf test (λ s. SaysWhether result (IsShownAgainst (IsMember members) s bound f))

-- whether the report is confirmed against the set with these members
abbrev pub SaysConfirmedAgainst : {E : Type 0} → Component → Matrix → List (List SerialOp)
    → Report → Result Bool E → Type 0
SaysConfirmedAgainst c matrix members r result =
    SaysWhether result (IsConfirmedAgainst (IsMember members) c matrix r)

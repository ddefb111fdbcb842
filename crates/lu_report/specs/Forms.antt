-- The texts that are reports, and what is wrong with one that is none.
use Rattle.std.specs.Prelude.{◌≡◌, ℕ, ◌+◌, ◌<◌, ◌≤◌, ◌^◌, List, [], ◌∷◌, ◌++◌, take, codes, Option, Some, None, MatchOption, Result, Ok, Err}
use Rattle.lu_test.specs.declared.schedule.Move.{Move}
use Rattle.lu_test.specs.Schedule.{AreMoves}
use Rattle.lu_test.specs.ScheduleText.{schedule_text}
use Rattle.lu_machine.specs.declared.counts.Counts.{Counts}
use Rattle.lu_history.specs.declared.serial.SerialOutcome.{SerialOutcome}
use Rattle.lu_witness.specs.declared.judgement.Why.{Why}
use Rattle.lu_report.specs.declared.report.Finding.{Finding}
use Rattle.lu_report.specs.declared.report.Finding.TheVariants.{SerialCut, Nondeterministic, Fail, Pass}
use Rattle.lu_report.specs.declared.report.Report.{Report}
use Rattle.lu_text.specs.declared.fault.Fault.{Fault}
use Rattle.lu_report.specs.declared.version.Version.{Version}
use Rattle.lu_history.specs.Serial.{IsOutcome}
use Rattle.lu_text.specs.declared.fault.Fault.TheVariants.{At, Memory}
use Rattle.lu_report.specs.declared.fault.ReportFaultKind.{ReportFaultKind}
use Rattle.lu_text.specs.Lines.{kept_lines, texts}
use denote.Ref.{Bor}
use Rattle.lu_report.specs.Parts.{AreLimits, IsJudgement, IsThreadOf, IsWithin}
use Rattle.lu_report.specs.Text.{number_line, earlier_line, fail_line, finding_lines, version_of, version_line, serial_lines, local_lines, report_lines, report_text}

-- ---- reports

-- numbers of 64 bits
pub record AreCounts (counts : Counts) : Type 0 where
  pub complete : counts.complete < 2 ^ 64
  pub stuck : counts.stuck < 2 ^ 64
  pub cut : counts.cut < 2 ^ 64

-- the schedule and the numbers are such as the types hold
abbrev pub HasParts : Finding → Type 0
HasParts (SerialCut u) = AreMoves u
HasParts (Nondeterministic u before earlier) = AreMoves u × IsOutcome earlier
HasParts (Fail u why) = AreMoves u
HasParts (Pass counts) = AreCounts counts

-- what a finding in a report is
abbrev pub IsSoundFinding : Finding → Type 0
IsSoundFinding f = IsWithin f × HasParts f

-- this text spells this report
abbrev pub Spells : List ℕ → Report → Type 0
Spells text r = AreLimits r × IsSoundFinding r.finding × (text ≡ report_text r)

-- these are the lines of this finding
abbrev pub IsFindingOf : List (List ℕ) → Finding → Type 0
IsFindingOf lines f = IsSoundFinding f × (lines ≡ finding_lines f)

-- these are the lines of this failure or pass
abbrev pub IsJudgementOf : List (List ℕ) → Finding → Type 0
IsJudgementOf lines f = (IsSoundFinding f × IsJudgement f) × (lines ≡ finding_lines f)

-- these are the lines of this report
abbrev pub IsReportOf : List (List ℕ) → Report → Type 0
IsReportOf lines r = AreLimits r × IsSoundFinding r.finding × (lines ≡ report_lines r)

-- these are the lines of a report
abbrev pub AreReport : List (List ℕ) → Type 0
AreReport lines = (r : Report) × IsReportOf lines r

-- ---- faults

-- Some lines of this form begin with the same n lines as these, and none with the same n + 1; where
-- these are n, the missing line is the one that differs.
pub record DiffersAt (Texts : List (List ℕ) → Type 0) (lines : List (List ℕ)) (n : ℕ) : Type 0 where
  pub before : (other : List (List ℕ)) × Texts other × (take n other ≡ take n lines)
  pub there : (other : List (List ℕ)) → Texts other → take (n + 1) other ≡ take (n + 1) lines → ⊥

-- The number of the first line at which all reports' texts differ, after the same lines before it.
abbrev pub IsFaultLine : List (List ℕ) → ℕ → Type 0
IsFaultLine lines line = (n : ℕ) × (line ≡ 1 + n) × DiffersAt AreReport lines n

-- where the lines are no report, this is the line of the fault
abbrev pub IsFaultLineIfAny : List (List ℕ) → ℕ → Type 0
IsFaultLineIfAny lines line = (AreReport lines → ⊥) → IsFaultLine lines line

-- The fault of a text. That memory was refused can come with any text.
abbrev pub IsFault : List ℕ → Fault ReportFaultKind → Type 0
IsFault text (At kind line) = IsFaultLine (kept_lines text) line
IsFault text Memory = Unit {0}

-- What a reader returned is the report, unless memory ran out.
abbrev pub GivesReport : Result Report (Fault ReportFaultKind) → Report → Type 0
GivesReport (Ok read) r = read ≡ r
GivesReport (Err fault) r = fault ≡ Memory

-- ---- lines

-- this number, within these limits, after this front
abbrev pub SaysNumber : List ℕ → ℕ → ℕ → List ℕ → ℕ → Type 0
SaysNumber front least most line n = (least ≤ n) × (n ≤ most) × (line ≡ number_line front n)

abbrev pub IsNumberLine : List ℕ → ℕ → ℕ → List ℕ → Type 0
IsNumberLine front least most line = (n : ℕ) × SaysNumber front least most line n

abbrev pub SaysVersion : List ℕ → Version → Type 0
SaysVersion line version = line ≡ version_line version

abbrev pub IsVersionLine : List ℕ → Type 0
IsVersionLine line = (version : Version) × SaysVersion line version

abbrev pub SaysSchedule : List ℕ → List Move → Type 0
SaysSchedule line u = AreMoves u × (line ≡ schedule_text u)

abbrev pub IsScheduleLine : List ℕ → Type 0
IsScheduleLine line = (u : List Move) × SaysSchedule line u

-- an earlier outcome
abbrev pub SaysEarlier : List ℕ → SerialOutcome → Type 0
SaysEarlier line earlier = IsOutcome earlier × (line ≡ earlier_line earlier)

abbrev pub IsEarlierLine : List ℕ → Type 0
IsEarlierLine line = (earlier : SerialOutcome) × SaysEarlier line earlier

-- the reason of a failure
abbrev pub SaysFail : List ℕ → Why → Type 0
SaysFail line why = IsThreadOf why × (line ≡ fail_line why)

abbrev pub IsFailLine : List ℕ → Type 0
IsFailLine line = (why : Why) × SaysFail line why

-- ---- what is read

-- What is read is such a thing. Where nothing is read, there is no such thing.
abbrev pub Reads : {A : Type 0} → (A → Type 0) → Option A → Type 0
Reads {A} IsSuch read = MatchOption read ((x : A) → IsSuch x → ⊥) IsSuch

-- the first line says this number, within these limits, after this front; these lines follow it
abbrev pub BeginsWith : List ℕ → ℕ → ℕ → List (List ℕ) → ℕ → List (List ℕ) → Type 0
BeginsWith front least most lines n rest =
    (least ≤ n) × (n ≤ most) × (lines ≡ number_line front n ∷ rest)

-- What is read is how the lines begin. Where nothing is read, they do not begin so.
abbrev pub ReadsFirst : List ℕ → ℕ → ℕ → List (List ℕ) → Option (ℕ × Bor (List (Bor (List ℕ))))
    → Type 0
ReadsFirst front least most lines None =
    (n : ℕ) (rest : List (List ℕ)) → BeginsWith front least most lines n rest → ⊥
ReadsFirst front least most lines (Some (n, rest)) =
    BeginsWith front least most lines n (texts rest.now)

-- the line of this schedule, and no other
abbrev pub IsOnlySchedule : List (List ℕ) → List Move → Type 0
IsOnlySchedule lines u = AreMoves u × (lines ≡ schedule_text u ∷ [])

-- the lines of these counts, after the first line of a pass
abbrev pub AreCountsOf : List (List ℕ) → Counts → Type 0
AreCountsOf lines counts =
    AreCounts counts × (codes "pass\n" ∷ lines ≡ finding_lines (Pass counts))

-- the lines of a conflict, after its first line
abbrev pub IsConflictOf : List (List ℕ) → Finding → Type 0
IsConflictOf lines f = IsSoundFinding f × (codes "nondeterministic\n" ∷ lines ≡ finding_lines f)

-- these lines, after that of this bound, are those of a report of this version
pub record IsAfterBound (v : Version) (bound : ℕ) (rest : List (List ℕ)) (r : Report) : Type 0 where
  pub bounded : r.bound ≡ bound
  pub of : v ≡ version_of r.serial r.local
  pub limits : AreLimits r
  pub sound : IsSoundFinding r.finding
  pub lines : rest ≡
      serial_lines r.serial ++ (local_lines v r.local ++ finding_lines r.finding)

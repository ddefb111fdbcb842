-- How a schedule is explained, by serial histories: in words, or by marks in its picture.
use Rattle.std.specs.Prelude.{◌≡◌, ◌⊎◌, ℕ, ◌<◌, true, false, List, ◌++◌, codes, Option, Some, None, MatchBool, String, [], Result, IfOk, MatchResult}
use Rattle.lu_component.specs.Component.{Component}
use Rattle.lu_test.specs.declared.schedule.Move.{Move}
use Rattle.lu_test.specs.ScheduleText.{schedule_text}
use Rattle.lu_test.specs.Matrix.{Matrix}
use Rattle.lu_machine.specs.declared.event.Event.{Event}
use Rattle.lu_machine.specs.declared.event.Status.{Status}
use Rattle.lu_machine.specs.States.{State}
use Rattle.lu_machine.specs.declared.test.Test.{Test}
use Rattle.lu_machine.specs.Starts.{FromEachStart, IsStart}
use Rattle.std.specs.Fmt.{decimal}
use Rattle.lu_history.specs.declared.serial.SerialOp.{SerialOp}
use Rattle.lu_history.specs.declared.serial.SerialOutcome.{SerialOutcome}
use Rattle.lu_history.specs.Text.{serial_outcome_text}
use Rattle.lu_serial.specs.Offences.{IsSetOf}
use Rattle.lu_serial_graph.specs.Graphs.{members_of}
use Rattle.lu_report.specs.declared.report.Finding.{Finding}
use Rattle.lu_report.specs.Parts.{IsOfOffence}
use Rattle.lu_witness.specs.Witnesses.{IsMember, IsVerdict}
use Rattle.lu_replay.specs.Reports.{IsFinding}
use Rattle.lu_replay.specs.Replays.{IsInfeasibleAt, PlaysToStatus}
use Rattle.lu_trace.specs.declared.wording.Wording.{Wording}
use Rattle.lu_report.specs.Limits.{Bounds}
use Rattle.lu_report.specs.declared.report.Finding.TheVariants.{SerialCut, Nondeterministic, Fail, Pass}
use Rattle.lu_history.specs.Histories.{pending}
use Rattle.lu_history.specs.Parts.{keep_pending}
use Rattle.lu_witness.specs.declared.judgement.Verdict.{Verdict}
use Rattle.lu_witness.specs.declared.judgement.Verdict.TheVariants.{Good, NoWitness, NoWitnessFor}
use Rattle.lu_explain.specs.Explanations.{Explanation, IsExplanation}
use Rattle.lu_machine.specs.declared.event.Status.TheVariants.{Running, Complete, Stuck}
use Rattle.lu_explain.specs.Blocks.{IsTextFor, run_of}
use Rattle.lu_explain.specs.EventMoves.{AreEventMoves}
use Rattle.lu_diagnosis.specs.NextSteps.{IsNextSteps, IsNextStepsText}
use Rattle.lu_explain.specs.declared.orders.Precedence.{Precedence}
use Rattle.lu_diagnosis.specs.Sentences.{IsBroken, IsWhatHappened}
use Rattle.lu_diagnosis.specs.SerialRuns.{EndsSerially, IsHistoryOf, conflict_text}
use Rattle.lu_cli.specs.Outcomes.{Answer, infeasible}
use Rattle.lu_picture.specs.Pictures.{Why}
use Rattle.lu_cli.specs.Pictures.{IsDrawnWhy}
use Rattle.lu_cli.specs.declared.explanation.Presentation.{Presentation}
use Rattle.lu_cli.specs.declared.explanation.Presentation.TheVariants.{Words, Picture}
use Rattle.lu_cli.specs.declared.explanation.Presenting.{Presenting}
use Rattle.lu_cli.specs.declared.explanation.ShownSchedule.{ShownSchedule}
use Rattle.lu_cli.specs.declared.explanation.Target.{Target}
use Rattle.lu_cli.specs.declared.explanation.Target.TheVariants as target

-- ---- the pending call that the picture of a stuck history explains

-- the least thread with a pending call, or thread 0 where there is none
abbrev pub IsLeastPending : List Event → ℕ → Type 0
IsLeastPending h t =
    ((pending t h ≡ true) × ((u : ℕ) → u < t → pending u h ≡ false))
    ⊎ ((t ≡ 0) × ((u : ℕ) → u < 8 → pending u h ≡ false))

-- the thread whose pending call has no witness, and else the least with a pending call
abbrev pub IsShownThread : Verdict → List Event → ℕ → Type 0
IsShownThread Good h t = IsLeastPending h t
IsShownThread NoWitness h t = IsLeastPending h t
IsShownThread (NoWitnessFor u) h t = t ≡ u

-- the history without the pending calls of other threads
abbrev pub IsShownPart : List (List SerialOp) → List Event → List Event → Type 0
IsShownPart members h part =
    (verdict : Verdict) × (thread : ℕ) × IsVerdict (IsMember members) h verdict
    × IsShownThread verdict h thread × (part ≡ keep_pending thread h)

-- the precedence that is broken, if that has no witness
abbrev pub IsShownBroken : List (List SerialOp) → List Event → Explanation → Option Precedence
    → Type 0
IsShownBroken members part e broken =
    MatchBool e.witnessed (broken ≡ None) (IsBroken (IsMember members) part broken)

-- why that fails, by these serial histories
pub record IsShownWhy (members : List (List SerialOp)) (h : List Event) (why : Why) : Type 0 where
  pub part : List Event
  pub shown : IsShownPart members h part
  pub explanation : Explanation
  pub explains : IsExplanation (IsMember members) part explanation
  pub breaks : IsShownBroken members part explanation why.broken
  pub is : why.explanation ≡ Some explanation

-- ---- what is explained, and what is not

-- why nothing is explained, with a schedule that shows it, or none
abbrev pub unexplained : List ℕ → List ℕ → Answer
unexplained why schedule =
    record { text = codes "explain " ++ why ++ codes "\n" ++ schedule; status = 1 }

-- that, and what each thread can do next after the schedule; or where it is infeasible
abbrev pub SaysNext : List ℕ → Wording → Component → Matrix → List Move → Answer → Type 0
SaysNext why how c m u answer =
    ((next : List ℕ) × IsNextSteps how c m u next
    × (answer ≡ unexplained why (codes "next\n" ++ next)))
    ⊎ ((i : ℕ) × IsInfeasibleAt c m u i × (answer ≡ infeasible i))

-- that serial runs differ: the schedule of one, both runs, and what differs
abbrev pub SaysConflict : Component → Matrix → List Move → ℕ → SerialOutcome → Answer → Type 0
SaysConflict c m u before earlier answer =
    (q : List SerialOp) × IsHistoryOf c m u q
    × (answer ≡ unexplained (codes "nondeterministic")
    (schedule_text u ++ conflict_text c m q before earlier))

-- how another serial run differs from this one, which has the same operations before
abbrev pub difference : ℕ → SerialOutcome → List ℕ
difference before earlier =
    codes "another serial run begins with the same " ++ decimal before
    ++ codes " calls, and then the same call has the outcome " ++ serial_outcome_text earlier
    ++ codes ", unlike here\n"

-- that serial runs differ, as a report says, with its schedule
abbrev pub nondeterministic : List Move → ℕ → SerialOutcome → Answer
nondeterministic u before earlier =
    unexplained (codes "nondeterministic") (schedule_text u ++ difference before earlier)

abbrev pub status_by : Verdict → ℕ
status_by Good = 0
status_by NoWitness = 1
status_by (NoWitnessFor t) = 1

-- what happened in the history of an ended schedule, and its explanation by these serial histories
pub record IsExplainedHistory (members : List (List SerialOp)) (c : Component) (m : Matrix)
    (u : List Move) (h : List Event) (answer : Answer) : Type 0 where
  pub verdict : Verdict
  pub judged : IsVerdict (IsMember members) h verdict
  pub said : List ℕ
  pub happened : IsWhatHappened (IsMember members) c m h verdict said
  pub moves : List ℕ
  pub of_events : AreEventMoves c m u moves
  pub why : List ℕ
  pub explains : IsTextFor (IsMember members) (run_of c m h moves) why
  pub is : answer ≡ record { text = said ++ why; status = status_by verdict }

-- the same as a picture
abbrev pub IsPicturedHistory : Wording → List (List SerialOp) → Component → Matrix → List Move
    → List Event → Answer → Type 0
IsPicturedHistory how members c m u h answer =
    (why : Why) × IsShownWhy members h why × IsDrawnWhy how why c m u answer

-- by an explanation, or as a picture in these words
abbrev pub IsPresentedAs : Presentation → Wording → List (List SerialOp) → Component → Matrix
    → List Move → List Event → Answer → Type 0
IsPresentedAs Words how = IsExplainedHistory
IsPresentedAs Picture how = IsPicturedHistory how

abbrev pub IsPresentedHistory : Presenting → List (List SerialOp) → Component → Matrix → List Move
    → List Event → Answer → Type 0
IsPresentedHistory shown = IsPresentedAs shown.by shown.how

-- a finding that is no failure explains nothing
abbrev pub ToFinding : (List Move → Answer → Type 0) → Finding → Answer → Type 0
ToFinding IsAnswer (SerialCut u) answer =
    answer ≡ unexplained (codes "serial-cut") (schedule_text u)
ToFinding IsAnswer (Nondeterministic u before earlier) answer =
    answer ≡ nondeterministic u before earlier
ToFinding IsAnswer (Fail u why) answer = IsAnswer u answer
ToFinding IsAnswer (Pass counts) answer = answer ≡ unexplained (codes "pass") []

-- the answer to a schedule that has not ended, or to one that has
abbrev pub ToEnded : Status → (Answer → Type 0) → (Answer → Type 0) → Answer → Type 0
ToEnded Running IsRunning IsEnded answer = IsRunning answer
ToEnded Complete IsRunning IsEnded answer = IsEnded answer
ToEnded Stuck IsRunning IsEnded answer = IsEnded answer

-- a schedule, explained by these serial histories, or where it is infeasible; of one that has not
-- ended it is said what each thread can do next
abbrev pub IsExplainedSchedule : Presenting → List (List SerialOp) → Component → Matrix
    → List Move → Answer → Type 0
IsExplainedSchedule by members c m u answer =
    ((h : List Event) × (status : Status) × PlaysToStatus c m u h status
    × ToEnded status (SaysNext (codes "running") by.how c m u)
    (IsPresentedHistory by members c m u h) answer)
    ⊎ ((i : ℕ) × IsInfeasibleAt c m u i × (answer ≡ infeasible i))

-- a schedule, or that of a report
abbrev pub IsExplainedTarget : Presenting → List (List SerialOp) → Component → Matrix → Target
    → Answer → Type 0
IsExplainedTarget by members c m (target.Schedule u) = IsExplainedSchedule by members c m u
IsExplainedTarget by members c m (target.Report r) =
    ToFinding (IsExplainedSchedule by members c m) r.finding

-- ---- by the serial runs

-- what a check finds, with any bound of schedules, where a serial run offends
abbrev pub IsOffenceOf : Component → Matrix → ℕ → Finding → Type 0
IsOffenceOf c m serial f =
    IsOfOffence f × ((bound : ℕ) → FromEachStart c m (λ s. IsFinding s bound serial f))

-- what is said of a serial run that offends
abbrev pub SaysFound : Component → Matrix → Finding → Answer → Type 0
SaysFound c m (SerialCut u) answer = answer ≡ unexplained (codes "serial-cut") (schedule_text u)
SaysFound c m (Nondeterministic u before earlier) answer = SaysConflict c m u before earlier answer
SaysFound c m (Fail u why) answer = ⊥
SaysFound c m (Pass counts) answer = ⊥

-- a serial run offends, and that is said
abbrev pub SaysOffence : Component → Matrix → ℕ → Answer → Type 0
SaysOffence c m serial answer =
    (f : Finding) × IsOffenceOf c m serial f × SaysFound c m f answer

-- none offends, and these are the serial histories
abbrev pub AreSerialHistories : Component → Matrix → ℕ → List (List SerialOp) → Type 0
AreSerialHistories c m serial members = (s : State) × IsStart c m s × IsSetOf s serial members

-- this is a graph of the serial histories, where none offends
abbrev pub IsGraphOfHistories : Component → Matrix → ℕ → List (List (List SerialOp)) × ℕ → Type 0
IsGraphOfHistories c m serial graph = AreSerialHistories c m serial (members_of graph)

-- the results are a graph of the serial histories, or that a serial run offends
abbrev pub LearnsOrSays : {E : Type 0} → Test → ℕ
    → Result (Result (List (List (List SerialOp)) × ℕ) Answer) E → Type 0
LearnsOrSays test serial result =
    IfOk result (λ learnt. MatchResult learnt
    (IsGraphOfHistories test.component.now test.matrix.now serial)
    (SaysOffence test.component.now test.matrix.now serial))

-- by the serial histories, where no serial run offends; else that one does
abbrev pub BySerialRuns : Component → Matrix → ℕ → (List (List SerialOp) → Answer → Type 0)
    → Answer → Type 0
BySerialRuns c m serial IsAnswer answer =
    ((members : List (List SerialOp)) × AreSerialHistories c m serial members
    × IsAnswer members answer)
    ⊎ SaysOffence c m serial answer

abbrev pub IsExplainedSerially : Presenting → Bounds → Component → Matrix → Target → Answer
    → Type 0
IsExplainedSerially by limits c m explained =
    BySerialRuns c m limits.serial (λ members. IsExplainedTarget by members c m explained)

-- so it is of the result, where there is one
abbrev pub ExplainsSerially : {E : Type 0} → Presenting → Bounds → Test → Target
    → Result Answer E → Type 0
ExplainsSerially by limits test explained result =
    IfOk result (IsExplainedSerially by limits test.component.now test.matrix.now explained)

-- ---- what the functions say of a test

-- these are the next steps of its threads after the schedule
abbrev pub WritesNext : {Z E : Type 0} → Wording → Test → List Move → Result (String Z) E → Type 0
WritesNext how test u result =
    IfOk result (IsNextStepsText how test.component.now test.matrix.now u)

abbrev pub TellsNext : {E : Type 0} → List ℕ → Wording → Test → List Move → Result Answer E
    → Type 0
TellsNext why how test u result =
    IfOk result (SaysNext why how test.component.now test.matrix.now u)

-- the schedule is serially ended
abbrev pub EndsSeriallyIn : Test → List Move → Type 0
EndsSeriallyIn test u = FromEachStart test.component.now test.matrix.now (EndsSerially u)

abbrev pub TellsConflict : {E : Type 0} → Test → List Move → ℕ → SerialOutcome → Result Answer E
    → Type 0
TellsConflict test u before earlier result =
    IfOk result (SaysConflict test.component.now test.matrix.now u before earlier)

-- ---- by the serial histories of a tree, which `members` gives

-- the schedule leads to what is shown
abbrev pub IsPlayed : Test → ShownSchedule → Type 0
IsPlayed test run =
    PlaysToStatus test.component.now test.matrix.now run.schedule.now run.shown.now.history
    run.shown.now.status

-- the answer, where there is one, explains the history of an ended schedule
abbrev pub ExplainsRun : {T E : Type 0} → (T → List (List SerialOp)) → T → Test → ShownSchedule
    → Result Answer E → Type 0
ExplainsRun members tree test run result =
    IfOk result (IsExplainedHistory (members tree) test.component.now test.matrix.now
    run.schedule.now run.shown.now.history)

-- it is a picture of it in these words
abbrev pub PicturesRun : {T E : Type 0} → Wording → (T → List (List SerialOp)) → T → Test
    → ShownSchedule → Result Answer E → Type 0
PicturesRun how members tree test run result =
    IfOk result (IsPicturedHistory how (members tree) test.component.now test.matrix.now
    run.schedule.now run.shown.now.history)

-- it presents it so
abbrev pub Presents : {T E : Type 0} → Presenting → (T → List (List SerialOp)) → T → Test
    → ShownSchedule → Result Answer E → Type 0
Presents by members tree test run result =
    IfOk result (IsPresentedHistory by (members tree) test.component.now test.matrix.now
    run.schedule.now run.shown.now.history)

-- it explains a schedule
abbrev pub ExplainsSchedule : {T E : Type 0} → Presenting → (T → List (List SerialOp)) → T → Test
    → List Move → Result Answer E → Type 0
ExplainsSchedule by members tree test u result =
    IfOk result (IsExplainedSchedule by (members tree) test.component.now test.matrix.now u)

-- the schedule of a finding
abbrev pub ExplainsFinding : {T E : Type 0} → Presenting → (T → List (List SerialOp)) → T → Test
    → Finding → Result Answer E → Type 0
ExplainsFinding by members tree test f result =
    IfOk result (ToFinding
    (IsExplainedSchedule by (members tree) test.component.now test.matrix.now) f)

-- a schedule, or that of a report
abbrev pub ExplainsTarget : {T E : Type 0} → Presenting → (T → List (List SerialOp)) → T → Test
    → Target → Result Answer E → Type 0
ExplainsTarget by members tree test explained result =
    IfOk result (IsExplainedTarget by (members tree) test.component.now test.matrix.now explained)

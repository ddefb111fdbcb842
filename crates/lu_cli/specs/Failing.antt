-- What `explain`, `trace` and `draw` show of a component and a matrix alone: what fails, by their
-- certificate.
use Rattle.std.specs.Prelude.{ℕ, List, ◌++◌, codes, ◌≡◌, Result, IfOk, String, string_bytes, MatchOption}
use Rattle.lu_text.specs.Words.{exactly_two}
use Rattle.lu_component.specs.Component.{Component}
use Rattle.lu_test.specs.declared.schedule.Move.{Move}
use Rattle.lu_test.specs.Matrix.{Matrix}
use Rattle.lu_machine.specs.declared.test.Test.{Test}
use Rattle.lu_machine.specs.Starts.{CanRun}
use Rattle.lu_report.specs.declared.report.Finding.{Finding}
use Rattle.lu_report.specs.Parts.{Report, shown_schedule}
use Rattle.lu_graph.specs.Nodes.{default_nodes}
use Rattle.lu_certify.specs.declared.certificate.Certificate.{Certificate}
use Rattle.lu_trace.specs.declared.wording.Wording.{Wording}
use Rattle.lu_report.specs.Limits.{most_moves}
use Rattle.lu_certify.specs.declared.certificate.Certificate.TheVariants.{Linearizable, NotLinearizable, Livelock, Undecided}
use Rattle.lu_certify.specs.declared.limits.Limits.{Limits}
use Rattle.lu_certify.specs.Certificates.{IsCertificate}
use Rattle.lu_cli.specs.declared.failing.View.{View}
use Rattle.lu_cli.specs.declared.failing.View.TheVariants.{Trace, Picture, Explanation, ExplainedPicture}
use Rattle.lu_cli.specs.declared.failing.RunView.{RunView}
use Rattle.lu_cli.specs.declared.failing.RunView.TheVariants as run
use Rattle.lu_cli.specs.Shows.{two_texts, ShowsCertificate, with_schedule}
use Rattle.lu_cli.specs.Outcomes.{Answer}
use Rattle.lu_cli.specs.Pictures.{IsDrawn}
use Rattle.lu_cli.specs.Explanation.{BySerialRuns, IsExplainedSchedule, SaysNext, ToFinding}
use Rattle.lu_cli.specs.Reading.{ToWorded}
use Rattle.lu_cli.specs.Trace.{IsTraced, each_step}
use Rattle.lu_cli.specs.declared.explanation.Presentation.{Presentation}
use Rattle.lu_cli.specs.declared.explanation.Presentation.TheVariants.{Words, Picture as Marked}
use Rattle.lu_cli.specs.declared.explanation.Presenting.{Presenting}

-- a text, with that of an answer below it
abbrev pub below : List ℕ → Answer → List ℕ
below text more = text ++ codes "---\n" ++ more.text

abbrev pub failure : List ℕ → Answer
failure text = record { text = text; status = 1 }

-- the finding, explained by the serial runs within the bounds of a certificate
abbrev pub IsFindingExplained : Presenting → Component → Matrix → Finding → Answer → Type 0
IsFindingExplained by c m f =
    BySerialRuns c m most_moves (λ members. ToFinding (IsExplainedSchedule by members c m) f)

-- so it is of the result, where there is one
abbrev pub ExplainsFindingSerially : {E : Type 0} → Presenting → Test → Finding
    → Result Answer E → Type 0
ExplainsFindingSerially by test f result =
    IfOk result (IsFindingExplained by test.component.now test.matrix.now f)

-- in these words, or by marks in a picture
abbrev pub in_words : Presentation → Wording → Presenting
in_words by how = record { by = by; how = how }

-- how what fails is shown, where a run is shown so
abbrev pub view_of_failure : RunView → View
view_of_failure (run.Trace tracing) = Trace tracing
view_of_failure run.Picture = Picture

-- The cut and what shows that it fails, `text`, with what each move of the schedule does below; or
-- the picture of the schedule alone.
abbrev pub ShowsRun : View → Wording → Component → Matrix → List Move → List ℕ → Answer → Type 0
ShowsRun Explanation how c cut u text answer =
    (steps : Answer) × IsTraced each_step how c cut u steps
    × (answer ≡ failure (below text steps))
ShowsRun (Trace tracing) how c cut u text answer =
    (steps : Answer) × IsTraced tracing how c cut u steps × (answer ≡ failure (below text steps))
ShowsRun Picture how c cut u text answer =
    (picture : Answer) × IsDrawn how c cut u picture × (answer ≡ failure picture.text)
ShowsRun ExplainedPicture how c cut u text answer =
    (picture : Answer) × IsDrawn how c cut u picture × (answer ≡ failure picture.text)

-- the answer, where there is one, shows that of the text
abbrev pub ShowsRunBelow : {E Z : Type 0} → View → Wording → Test → List Move → String Z
    → Result Answer E → Type 0
ShowsRunBelow view how cut u text result =
    IfOk result (ShowsRun view how cut.component.now cut.matrix.now u (string_bytes text))

-- The same where the cut has this report, with why it fails between them, or in the picture, where
-- that is asked for.
abbrev pub ShowsFailing : View → Wording → Component → Matrix → Report → List Move → Answer
    → Type 0
ShowsFailing Explanation how c cut r u answer =
    (why : Answer) × IsFindingExplained (in_words Words how) c cut r.finding why
    × ShowsRun Explanation how c cut u (below (two_texts c cut r) why) answer
ShowsFailing ExplainedPicture how c cut r u answer =
    (picture : Answer) × IsFindingExplained (in_words Marked how) c cut r.finding picture
    × (answer ≡ failure picture.text)
ShowsFailing (Trace tracing) how c cut r u answer =
    ShowsRun (Trace tracing) how c cut u (two_texts c cut r) answer
ShowsFailing Picture how c cut r u answer = ShowsRun Picture how c cut u (two_texts c cut r) answer

-- so it is of the result, where there is one
abbrev pub ShowsFailure : {E : Type 0} → View → Wording → Test → Report → List Move
    → Result Answer E → Type 0
ShowsFailure view how cut r u result =
    IfOk result (ShowsFailing view how cut.component.now cut.matrix.now r u)

-- The cut and the schedule of its livelock, `text`, with what each thread can do next after the
-- schedule, where it is explained; and the run.
abbrev pub ShowsLivelock : View → Wording → Component → Matrix → List Move → List ℕ → Answer
    → Type 0
ShowsLivelock Explanation how c cut u text answer =
    (why : Answer) × SaysNext (codes "livelock") how c cut u why
    × ShowsRun Explanation how c cut u (below text why) answer
ShowsLivelock (Trace tracing) how c cut u text answer =
    ShowsRun (Trace tracing) how c cut u text answer
ShowsLivelock Picture how c cut u text answer = ShowsRun Picture how c cut u text answer
ShowsLivelock ExplainedPicture how c cut u text answer =
    ShowsRun ExplainedPicture how c cut u text answer

-- so it is of the result, where there is one
abbrev pub ShowsLivelockBelow : {E Z : Type 0} → View → Wording → Test → List Move → String Z
    → Result Answer E → Type 0
ShowsLivelockBelow view how cut u text result =
    IfOk result (ShowsLivelock view how cut.component.now cut.matrix.now u (string_bytes text))

-- of a certificate the cut that fails or has a livelock is shown; another one as it is
abbrev pub ShowsByView : View → Wording → Component → Certificate → Answer → Type 0
ShowsByView view how c (Linearizable members) answer =
    ShowsCertificate c (Linearizable members) answer
ShowsByView view how c (NotLinearizable cut r) answer =
    MatchOption (shown_schedule r.finding) (ShowsCertificate c (NotLinearizable cut r) answer)
    (λ u. ShowsFailing view how c cut r u answer)
ShowsByView view how c (Livelock cut u) answer =
    ShowsLivelock view how c cut u (with_schedule c (cut, u)).text answer
ShowsByView view how c (Undecided cut r) answer = ShowsCertificate c (Undecided cut r) answer

-- the cut that it names, if any, can be run
abbrev pub CanRunCut : Component → Certificate → Type 0
CanRunCut c (Linearizable members) = Unit {0}
CanRunCut c (NotLinearizable cut r) = CanRun c cut
CanRunCut c (Livelock cut u) = CanRun c cut
CanRunCut c (Undecided cut r) = Unit {0}

-- the limits of `certify`, where none are given
abbrev pub widest : Limits
widest = record { bound = most_moves; serial = most_moves; nodes = default_nodes }

-- what is shown of the certificate, which has the limits of `certify`
abbrev pub IsShownAlone : View → Wording → Component → Matrix → Answer → Type 0
IsShownAlone view how c m answer =
    (certificate : Certificate) × IsCertificate c m widest certificate
    × ShowsByView view how c certificate answer

-- so it is of the result, where there is one
abbrev pub ShowsAlone : {E : Type 0} → View → Wording → Test → Result Answer E → Type 0
ShowsAlone view how test result =
    IfOk result (IsShownAlone view how test.component.now test.matrix.now)

-- of a component and a matrix alone what fails is shown so; of more parts what stands after them
abbrev pub AloneOr : View → (List (List ℕ) → Answer → Type 0) → List (List ℕ) → Answer → Type 0
AloneOr view IsShown parts answer =
    MatchOption (exactly_two parts) (IsShown parts answer)
    (λ p. ToWorded p.0 p.1 (IsShownAlone view) answer)

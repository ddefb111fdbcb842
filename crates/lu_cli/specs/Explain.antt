-- What `explain` and `draw --explain` answer.
use Rattle.std.specs.Prelude.{ℕ, List, codes, Bool, nat_eq, MatchBool, ◌≡◌, Ok, Option, Some, None, Result}
use Rattle.lu_text.specs.declared.fault.Fault.{Fault}
use Rattle.lu_text.specs.Words.{exactly_four}
use Rattle.lu_component.specs.Component.{Component}
use Rattle.lu_test.specs.declared.schedule.Move.{Move}
use Rattle.lu_test.specs.declared.schedule_fault.ScheduleFault.{ScheduleFault}
use Rattle.lu_test.specs.ScheduleText.{schedule_of, IsScheduleUnlessMemory}
use Rattle.lu_test.specs.Matrix.{Matrix}
use Rattle.lu_machine.specs.declared.test.Test.{Test}
use Rattle.lu_report.specs.Parts.{Report}
use Rattle.lu_report.specs.declared.fault.ReportFaultKind.{ReportFaultKind}
use Rattle.lu_report.specs.Forms.{Spells, IsFault}
use Rattle.std.specs.List.{starts_with}
use Rattle.lu_trace.specs.declared.wording.Wording.{Wording}
use Rattle.lu_report.specs.Limits.{Bounds}
use Rattle.lu_spec.specs.declared.given.Marks.{Marks}
use Rattle.lu_cli.specs.declared.refusal.Refusal.{Refusal}
use Rattle.lu_cli.specs.declared.refusal.Refusal.TheVariants as refusal
use Rattle.lu_cli.specs.declared.failing.View.{View}
use Rattle.lu_cli.specs.declared.failing.View.TheVariants as view
use Rattle.lu_cli.specs.Failing.{in_words, AloneOr}
use Rattle.lu_cli.specs.Refusals.{Answered}
use Rattle.lu_cli.specs.Outcomes.{Answer, refused}
use Rattle.lu_cli.specs.Explanation.{IsExplainedSerially, IsExplainedTarget}
use Rattle.lu_cli.specs.Reading.{ToSchedule, ToReport, ToParts, ToWorded, ToGiven}
use Rattle.lu_cli.specs.Shown.{shown_parts}
use Rattle.lu_cli.specs.declared.explanation.Presentation.{Presentation}
use Rattle.lu_cli.specs.declared.explanation.Presentation.TheVariants.{Words, Picture}
use Rattle.lu_cli.specs.declared.explanation.Presenting.{Presenting}
use Rattle.lu_cli.specs.declared.explanation.Target.{Target}
use Rattle.lu_cli.specs.declared.explanation.Target.TheVariants as target

-- ---- what is explained

-- the text begins as a report does
abbrev pub is_report : List ℕ → Bool
is_report text = starts_with nat_eq text (codes "lineup")

-- the answer to a text of a schedule or of a report: its refusal, or what is answered to it
abbrev pub ToTarget : List ℕ → (Target → Answer → Type 0) → Answer → Type 0
ToTarget text IsAnswer answer =
    MatchBool (is_report text) (ToReport text (λ r. IsAnswer (target.Report r)) answer)
    (ToSchedule (schedule_of text) (λ u. IsAnswer (target.Schedule u)) answer)

-- what is read of such a text
abbrev pub IsTarget : List ℕ → Target → Type 0
IsTarget text t =
    MatchBool (is_report text) ((r : Report) × Spells text r × (t ≡ target.Report r))
    ((u : List Move) × (schedule_of text ≡ Ok u) × (t ≡ target.Schedule u))

-- why it is refused
abbrev pub IsTargetRefusal : List ℕ → Refusal → Type 0
IsTargetRefusal text refused =
    MatchBool (is_report text)
    ((fault : Fault ReportFaultKind) × IsFault text fault × (refused ≡ refusal.Report fault))
    ((fault : ScheduleFault) × IsScheduleUnlessMemory fault (schedule_of text)
    × (refused ≡ refusal.Schedule fault))

-- the bound of serial runs that the report has, else the one that is asked for
abbrev pub serial_of : Bounds → Option ℕ → Bounds
serial_of limits None = limits
serial_of limits (Some serial) = record { bound = limits.bound; serial = serial }

-- a report is explained by its own bound of serial runs
abbrev pub limits_for : Bounds → Target → Bounds
limits_for limits (target.Schedule u) = limits
limits_for limits (target.Report r) = serial_of limits r.serial

-- ---- by the serial runs

-- the schedule or the report is read, and explained by the serial runs: a report by its own bound
abbrev pub IsExplainedText : Presenting → Bounds → Component → Matrix → List ℕ → Answer
    → Type 0
IsExplainedText by limits c m text =
    ToTarget text (λ t. IsExplainedSerially by (limits_for limits t) c m t)

-- the results are so
abbrev pub ExplainsText : Presenting → Bounds → Test → List ℕ → Result Answer Refusal → Type 0
ExplainsText by limits test text =
    Answered (IsExplainedText by limits test.component.now test.matrix.now text)

abbrev pub IsExplainAfter : Presentation → Bounds → List (List ℕ) → Answer → Type 0
IsExplainAfter by limits parts =
    ToParts (shown_parts parts)
    (λ p. ToWorded p.0 p.1 (λ how c m. IsExplainedText (in_words by how) limits c m p.2))

abbrev pub view_of : Presentation → View
view_of Words = view.Explanation
view_of Picture = view.ExplainedPicture

abbrev pub IsAnswerToExplain : Presentation → Bounds → List (List ℕ) → Answer → Type 0
IsAnswerToExplain by limits = AloneOr (view_of by) (IsExplainAfter by limits)

-- ---- by a specification

-- the schedule or the report is read first, and then the specification
abbrev pub IsExplainedAgainstText : Wording → Component → Matrix → List ℕ → Marks → List ℕ → Answer
    → Type 0
IsExplainedAgainstText how c m text marks spec =
    ToTarget text
    (λ t. ToGiven marks m spec (λ members. IsExplainedTarget (in_words Words how) members c m t))

abbrev pub ExplainsAgainst : Wording → Test → List ℕ → Marks → List ℕ → Result Answer Refusal → Type 0
ExplainsAgainst how test text marks spec =
    Answered (IsExplainedAgainstText how test.component.now test.matrix.now text marks spec)

abbrev pub IsAnswerToExplainAgainst : Marks → List (List ℕ) → Answer → Type 0
IsAnswerToExplainAgainst marks parts =
    ToParts (exactly_four parts)
    (λ p. ToWorded p.0 p.1 (λ how c m. IsExplainedAgainstText how c m p.2 marks p.3))

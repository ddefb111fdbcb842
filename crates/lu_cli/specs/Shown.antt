-- What `trace` and `draw` answer.
use Rattle.std.specs.Prelude.{ℕ, List, Bool, ◌||◌, codes, Option, Some, None, if◌then◌else◌, [], ◌∷◌, ◌≡◌, Result, Ok, ◌⊎◌, IfOk}
use Rattle.lu_component.specs.Component.{Component}
use Rattle.lu_test.specs.declared.schedule.Move.{Move}
use Rattle.lu_test.specs.declared.schedule_fault.ScheduleFault.{ScheduleFault}
use Rattle.lu_test.specs.ScheduleText.{schedule_of, IsScheduleUnlessMemory}
use Rattle.lu_test.specs.Matrix.{Matrix}
use Rattle.lu_machine.specs.declared.test.Test.{Test}
use Rattle.lu_report.specs.Parts.{Report, shown_schedule}
use Rattle.lu_report.specs.Forms.{Spells}
use Rattle.lu_trace.specs.declared.wording.Wording.{Wording}
use denote.Ref.{Bor}
use Rattle.std.specs.Option.{option_map}
use Rattle.std.specs.Str.{bytes_eq}
use Rattle.lu_cli.specs.declared.refusal.Refusal.{Refusal}
use Rattle.lu_cli.specs.declared.refusal.Refusal.TheVariants as refusal
use Rattle.lu_cli.specs.declared.failing.RunView.{RunView}
use Rattle.lu_cli.specs.declared.failing.RunView.TheVariants as run
use Rattle.lu_cli.specs.Failing.{AloneOr, view_of_failure}
use Rattle.lu_cli.specs.Refusals.{Answered}
use Rattle.lu_cli.specs.Outcomes.{Answer, refused}
use Rattle.lu_cli.specs.Pictures.{IsDrawn}
use Rattle.lu_cli.specs.Reading.{ToSchedule, ToParts, ToWorded}
use Rattle.lu_cli.specs.Trace.{IsTraced}

-- ---- the parts of a bundle

-- the line before a matrix and what shows something on it: that of a certificate, or of a campaign
-- that compares
abbrev pub is_verdict : List ℕ → Bool
is_verdict text =
    bytes_eq text (codes "not linearizable\n")
    || (bytes_eq text (codes "livelock\n")
    || (bytes_eq text (codes "undecided\n")
    || (bytes_eq text (codes "differs serially\n")
    || bytes_eq text (codes "differs concurrently\n"))))

-- these three, where the part before them is such a line
abbrev pub after_verdict : List ℕ → List ℕ × List ℕ × List ℕ → Option (List ℕ × List ℕ × List ℕ)
after_verdict verdict parts = if is_verdict verdict then Some parts else None

-- A component, a matrix, and a schedule or a report. Matrix and report may stand as a certificate
-- has them, after its verdict, and that after the matrix of which it is.
abbrev pub shown_parts : List (List ℕ) → Option (List ℕ × List ℕ × List ℕ)
shown_parts [] = None
shown_parts (c ∷ []) = None
shown_parts (c ∷ m ∷ []) = None
shown_parts (c ∷ m ∷ r ∷ []) = Some (c, m, r)
shown_parts (c ∷ verdict ∷ m ∷ r ∷ []) = after_verdict verdict (c, m, r)
shown_parts (c ∷ whole ∷ verdict ∷ m ∷ r ∷ []) = after_verdict verdict (c, m, r)
shown_parts (a ∷ b ∷ c ∷ d ∷ e ∷ f ∷ parts) = None

-- so it is of what is lent
abbrev pub AreShownParts : List (List ℕ)
    → Option (Bor (List ℕ) × Bor (List ℕ) × Bor (List ℕ)) → Type 0
AreShownParts parts lent =
    option_map (λ p. (p.0.now, p.1.now, p.2.now)) lent ≡ shown_parts parts

-- ---- the schedule that a text says or a report shows

-- the schedule that the report which the text spells shows; none where it spells none with a
-- schedule
abbrev pub IsOfReport : List ℕ → Option (List Move) → Type 0
IsOfReport text None = (r : Report) → Spells text r → shown_schedule r.finding ≡ None
IsOfReport text (Some u) = (r : Report) × Spells text r × (shown_schedule r.finding ≡ Some u)

-- that schedule, and else what the text says as a schedule
abbrev pub or_schedule : Option (List Move) → List ℕ → Result (List Move) ScheduleFault
or_schedule None text = schedule_of text
or_schedule (Some u) text = Ok u

-- the answer to a text of a schedule, or of a report that shows one; of any other text what is
-- refused of it as a schedule
abbrev pub ToShown : List ℕ → (List Move → Answer → Type 0) → Answer → Type 0
ToShown text IsAnswer answer =
    (found : Option (List Move)) × IsOfReport text found
    × ToSchedule (or_schedule found text) IsAnswer answer

-- what is read of such a text
abbrev pub IsTextOfSchedule : List ℕ → List Move → Type 0
IsTextOfSchedule text u =
    (found : Option (List Move)) × IsOfReport text found × (or_schedule found text ≡ Ok u)

-- why it is refused: by its fault as a schedule, or memory ran out
abbrev pub IsShownRefusal : List ℕ → Refusal → Type 0
IsShownRefusal text refused =
    ((found : Option (List Move)) × (fault : ScheduleFault) × IsOfReport text found
    × IsScheduleUnlessMemory fault (or_schedule found text) × (refused ≡ refusal.Schedule fault))
    ⊎ (refused ≡ refusal.Memory)

-- ---- its run

-- the run of the schedule, shown so
abbrev pub IsRunShown : RunView → Wording → Component → Matrix → List Move → Answer → Type 0
IsRunShown (run.Trace tracing) = IsTraced tracing
IsRunShown run.Picture = IsDrawn

abbrev pub IsTextShown : RunView → Wording → Component → Matrix → List ℕ → Answer → Type 0
IsTextShown view how c m text = ToShown text (IsRunShown view how c m)

-- the results are so
abbrev pub ShowsRunOf : {E : Type 0} → RunView → Wording → Test → List Move → Result Answer E
    → Type 0
ShowsRunOf view how test u result =
    IfOk result (IsRunShown view how test.component.now test.matrix.now u)

abbrev pub ShowsText : RunView → Wording → Test → List ℕ → Result Answer Refusal → Type 0
ShowsText view how test text =
    Answered (IsTextShown view how test.component.now test.matrix.now text)

abbrev pub IsShownAfter : RunView → List (List ℕ) → Answer → Type 0
IsShownAfter view parts =
    ToParts (shown_parts parts) (λ p. ToWorded p.0 p.1 (λ how c m. IsTextShown view how c m p.2))

abbrev pub IsAnswerToTraceOrDraw : RunView → List (List ℕ) → Answer → Type 0
IsAnswerToTraceOrDraw view = AloneOr (view_of_failure view) (IsShownAfter view)

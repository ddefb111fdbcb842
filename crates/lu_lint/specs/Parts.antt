-- A part after the matrix: a specification, a report, a recorded history or a schedule, as its
-- first words say.
use Rattle.std.specs.Prelude.{◌≡◌, ℕ, Bool, false, List, [], ◌∷◌, length, map, ◌++◌, Option, Some, None, Result, Ok, Err, codes, take, ◌||◌, if◌then◌else◌}
use Rattle.std.specs.List.{flat_map}
use Rattle.std.specs.Str.{bytes_eq}
use Rattle.lu_text.specs.declared.fault.Fault.{Fault}
use Rattle.lu_text.specs.declared.fault.Fault.TheVariants.{At, Memory}
use Rattle.lu_text.specs.Faults.{meaning_of}
use Rattle.lu_text.specs.Lines.{kept_lines, lines_of, words_of}
use Rattle.lu_text.specs.Words.{Word}
use Rattle.lu_test.specs.Matrix.{Matrix}
use Rattle.lu_report.specs.declared.fault.ReportFaultKind.TheVariants.{Form}
use Rattle.lu_report.specs.declared.faults.ReportLineFault.{ReportLineFault}
use Rattle.lu_report.specs.EveryLine.{AreReportFaults}
use Rattle.lu_spec.specs.declared.fault.SpecLineFault.{SpecLineFault}
use Rattle.lu_spec.specs.EveryFreeFault.{AreGivenFaults}
use Rattle.lu_recorded.specs.declared.fault.RecordedFaultKind.{RecordedFaultKind}
use Rattle.lu_recorded.specs.RecordedText.{recorded_grammar}
use Rattle.lu_spec.specs.declared.given.Marks.{Marks}
use Rattle.lu_lint.specs.declared.remark.Said.{Said}
use Rattle.lu_lint.specs.declared.remark.FaultKind.TheVariants as part
use Rattle.lu_lint.specs.declared.part_kind.PartKind.{PartKind}
use Rattle.lu_lint.specs.declared.part_kind.PartKind.TheVariants.{Specification, Report, History, Schedule}
use Rattle.lu_lint.specs.Lint.{message_here}
use Rattle.lu_lint.specs.Said.{above_next, message_said}
use Rattle.lu_lint.specs.Schedule.{schedule_faults, schedule_said}

-- a line of a recorded history begins with this word
abbrev pub begins_step : Word → Bool
begins_step word =
    bytes_eq word (codes "call") || bytes_eq word (codes "return") || bytes_eq word (codes "stuck")

-- the first of these words is such a one
abbrev pub begin_history : List Word → Bool
begin_history [] = false
begin_history (word ∷ words) = begins_step word

-- a part is to be a recorded history: its first word begins a line of one
abbrev pub is_history : List ℕ → Bool
is_history text = begin_history (flat_map words_of (lines_of text))

-- the text begins with these bytes
abbrev pub begins_with : List ℕ → List ℕ → Bool
begins_with text front = bytes_eq (take (length front) text) front

-- what a part is to be
abbrev pub kind_of : List ℕ → PartKind
kind_of text =
    if begins_with text (codes "lineup spec") then Specification
    else (if begins_with text (codes "lineup") then Report
    else (if is_history text then History else Schedule))

-- a fault of a report is said of its own line
abbrev pub report_said : ℕ → ReportLineFault → Said
report_said above fault = message_said part.Report above (message_here fault.line Form)

-- what is said of a report: each of its faults
abbrev pub ReportSaid : ℕ → List ℕ → List Said → Type 0
ReportSaid above text said =
    (faults : List ReportLineFault) × AreReportFaults (kept_lines text) faults
    × (said ≡ map (report_said above) faults)

-- a fault of a specification is said of its own line
abbrev pub specification_said : ℕ → SpecLineFault → Said
specification_said above fault =
    message_said part.Specification above (message_here fault.line fault.kind)

-- what is said of a specification of a matrix: each of its faults
abbrev pub SpecificationSaid : Marks → Matrix → ℕ → List ℕ → List Said → Type 0
SpecificationSaid marks matrix above text said =
    (faults : List SpecLineFault) × AreGivenFaults marks matrix text faults
    × (said ≡ map (specification_said above) faults)

-- where there is no matrix, nothing is said
abbrev pub SaidOfSome : Marks → Option Matrix → ℕ → List ℕ → List Said → Type 0
SaidOfSome marks None above text said = said ≡ []
SaidOfSome marks (Some matrix) above text said = SpecificationSaid marks matrix above text said

-- what is said of a schedule
abbrev pub ScheduleSaid : ℕ → List ℕ → List Said → Type 0
ScheduleSaid above text said = said ≡ schedule_said above (schedule_faults text)

-- the fault of a recorded history is said of its own line
abbrev pub history_said : {A : Type 0} → ℕ → Result A (Fault RecordedFaultKind) → List Said
history_said above (Ok recorded) = []
history_said above (Err Memory) = []
history_said above (Err (At kind n)) = message_said part.History above (message_here n kind) ∷ []

-- what is said of the text of a recorded history of a matrix: its first fault
abbrev pub recorded_said : Matrix → ℕ → List ℕ → List Said
recorded_said matrix above text = history_said above (meaning_of (recorded_grammar matrix) text)

-- what is said of recorded histories of a matrix, each a part
abbrev pub histories_said : Matrix → ℕ → List (List ℕ) → List Said
histories_said matrix above [] = []
histories_said matrix above (text ∷ texts) =
    recorded_said matrix above text ++ histories_said matrix (above_next above text) texts

-- where there is no matrix, nothing is said
abbrev pub histories_of : Option Matrix → ℕ → List (List ℕ) → List Said
histories_of None above texts = []
histories_of (Some matrix) above texts = histories_said matrix above texts

-- what is said of a part that is to be this, after a matrix that is read or not
abbrev pub PartSaid : Marks → PartKind → Option Matrix → ℕ → List ℕ → List Said → Type 0
PartSaid marks Specification matrix above text said = SaidOfSome marks matrix above text said
PartSaid marks Report matrix above text said = ReportSaid above text said
PartSaid marks History matrix above text said = said ≡ histories_of matrix above (text ∷ [])
PartSaid marks Schedule matrix above text said = ScheduleSaid above text said

-- What is answered to the texts of a bundle: a refusal, or what is answered to what they say.
use Rattle.std.specs.Prelude.{◌≡◌, Option, Some, None, codes, ℕ, List, Result, Ok, Err, ◌⊎◌, MatchBool}
use Rattle.lu_text.specs.declared.fault.Fault.{Fault}
use Rattle.lu_text.specs.declared.fault.Fault.TheVariants.{At, Memory}
use Rattle.lu_text.specs.Faults.{meaning_of}
use Rattle.lu_component.specs.Component.{Component}
use Rattle.lu_lang.specs.Kinds.{code_of}
use Rattle.lu_lang.specs.Grammar.{component_grammar}
use Rattle.lu_test.specs.declared.schedule.Move.{Move}
use Rattle.lu_test.specs.declared.schedule_fault.ScheduleFault.{ScheduleFault}
use Rattle.lu_test.specs.Codes.{schedule_code_of, matrix_code_of}
use Rattle.lu_test.specs.MatrixText.{matrix_grammar}
use Rattle.lu_test.specs.Matrix.{Matrix}
use Rattle.lu_machine.specs.Starts.{IsUnsettledAt, Settles}
use Rattle.lu_history.specs.declared.serial.SerialOp.{SerialOp}
use Rattle.lu_report.specs.Parts.{Report}
use Rattle.lu_report.specs.declared.fault.ReportFaultKind.{ReportFaultKind}
use Rattle.lu_report.specs.Codes.{report_code_of}
use Rattle.lu_report.specs.Forms.{IsFault, Spells}
use Rattle.lu_spec.specs.declared.fault.SpecFaultKind.{SpecFaultKind}
use Rattle.lu_spec.specs.Codes.{spec_code_of}
use Rattle.lu_spec.specs.declared.given.Marks.{Marks}
use Rattle.lu_spec.specs.FreeSpecs.{IsGivenAs, IsGivenFault}
use Rattle.lu_spec.specs.SpecText.{IsReadAs, IsSpecFault}
use Rattle.lu_trace.specs.declared.wording.Wording.{Wording}
use Rattle.lu_source_text.specs.Begins.{is_source}
use Rattle.lu_source_text.specs.Kinds.{code_of as source_code_of}
use Rattle.lu_source_text.specs.Readers.{component_meant}
use Rattle.lu_recorded.specs.declared.recorded.Recorded.{Recorded}
use Rattle.lu_text.specs.Lines.{texts}
use Rattle.lu_recorded.specs.declared.fault.RecordedFaultKind.{RecordedFaultKind}
use Rattle.lu_recorded.specs.Bundled.{AreRead, IsFirstRefused}
use Rattle.lu_recorded.specs.Codes.{recorded_code_of}
use Rattle.lu_run.specs.Bundled.{AreRead as AreRuns, IsFirstRefused as IsFirstRefusedRun}
use Rattle.lu_run.specs.Codes.{run_code_of}
use Rattle.lu_run.specs.Setups.{setup_grammar}
use Rattle.lu_run.specs.declared.fault.RunFaultKind.{RunFaultKind}
use Rattle.lu_run.specs.declared.run.Run.{Run}
use Rattle.lu_cli.specs.Worded.{IsWordingOf}
use Rattle.lu_cli.specs.Refusals.{refused_in_history, refused_in_run}
use Rattle.lu_cli.specs.Outcomes.{Answer, refused, refused_on_line, unsettled}

-- what is answered to the parts of a bundle, where it has this many and no more
abbrev pub ToParts : {A : Type 0} → Option A → (A → Answer → Type 0) → Answer → Type 0
ToParts None IsAnswer answer = answer ≡ refused (codes "B1")
ToParts (Some parts) IsAnswer answer = IsAnswer parts answer

-- the answer to a text: its refusal, by a code and a line, or what is answered to its value
abbrev pub ToValue : {Kind A : Type 0} → (Kind → List ℕ) → Result A (Fault Kind)
    → (A → Answer → Type 0) → Answer → Type 0
ToValue code (Ok x) IsAnswer answer = IsAnswer x answer
ToValue code (Err (At kind n)) IsAnswer answer = answer ≡ refused_on_line (code kind) n
ToValue code (Err Memory) IsAnswer answer = ⊥

-- ---- texts of schedules, reports, specifications and recorded histories

abbrev pub ToSchedule : Result (List Move) ScheduleFault → (List Move → Answer → Type 0) → Answer
    → Type 0
ToSchedule (Ok u) IsAnswer answer = IsAnswer u answer
ToSchedule (Err fault) IsAnswer answer = answer ≡ refused (schedule_code_of fault)

-- the answer to the text of a report: the fault with its line, or what is answered to the report
abbrev pub ToReport : List ℕ → (Report → Answer → Type 0) → Answer → Type 0
ToReport text IsAnswer answer =
    ((r : Report) × Spells text r × IsAnswer r answer)
    ⊎ ((kind : ReportFaultKind) × (n : ℕ) × IsFault text (At kind n)
    × (answer ≡ refused_on_line (report_code_of kind) n))

-- the answer to the text of a specification of the matrix: the fault with its line, or what is
-- answered to its members
abbrev pub ToSpec : Matrix → List ℕ → (List (List SerialOp) → Answer → Type 0) → Answer → Type 0
ToSpec matrix text IsAnswer answer =
    ((members : List (List SerialOp)) × IsReadAs matrix text members × IsAnswer members answer)
    ⊎ ((kind : SpecFaultKind) × (n : ℕ) × IsSpecFault matrix text (At kind n)
    × (answer ≡ refused_on_line (spec_code_of kind) n))

-- the answer to the text of a specification by which histories are judged
abbrev pub ToGiven : Marks → Matrix → List ℕ → (List (List SerialOp) → Answer → Type 0) → Answer
    → Type 0
ToGiven marks matrix text IsAnswer answer =
    ((members : List (List SerialOp)) × IsGivenAs marks matrix text members
    × IsAnswer members answer)
    ⊎ ((kind : SpecFaultKind) × (n : ℕ) × IsGivenFault marks matrix text (At kind n)
    × (answer ≡ refused_on_line (spec_code_of kind) n))

-- the answer to texts of recorded histories: the fault of the first that has one, or what is
-- answered to all
abbrev pub ToRecorded : Matrix → List (List ℕ) → (List Recorded → Answer → Type 0) → Answer → Type 0
ToRecorded m texts IsAnswer answer =
    ((all : List Recorded) × AreRead m texts all × IsAnswer all answer)
    ⊎ ((i : ℕ) × (kind : RecordedFaultKind) × (n : ℕ)
    × IsFirstRefused m texts (record { number = i; fault = At kind n })
    × (answer ≡ refused_in_history (recorded_code_of kind) i n))

-- the answer to texts of runs: the fault of the first that has one, or what is answered to all
abbrev pub ToRuns : Component → List (List ℕ) → (List Run → Answer → Type 0) → Answer → Type 0
ToRuns c texts IsAnswer answer =
    ((runs : List Run) × AreRuns c texts runs × IsAnswer runs answer)
    ⊎ ((i : ℕ) × (kind : RunFaultKind) × (n : ℕ)
    × IsFirstRefusedRun c texts (record { number = i; fault = At kind n })
    × (answer ≡ refused_in_run (run_code_of kind) i n))

-- ---- texts of components and matrices

-- the answer to a matrix text of the component
abbrev pub ToMatrix : Component → List ℕ → (Matrix → Answer → Type 0) → Answer → Type 0
ToMatrix c matrix IsAnswer = ToValue matrix_code_of (meaning_of (matrix_grammar c) matrix) IsAnswer

-- the answer where the setup settles; else the number of its first call that does not end
abbrev pub ToSettled : Component → Matrix → (Answer → Type 0) → Answer → Type 0
ToSettled c matrix IsAnswer answer =
    (Settles c matrix × IsAnswer answer)
    ⊎ ((k : ℕ) × IsUnsettledAt c matrix k × (answer ≡ unsettled k))

-- the component is read first, and then the setup, which is run
abbrev pub ToSetup : List ℕ → List ℕ → (Component → Matrix → Answer → Type 0) → Answer → Type 0
ToSetup component setup IsAnswer =
    ToValue code_of (meaning_of component_grammar component)
    (λ c. ToValue matrix_code_of (meaning_of (setup_grammar c) setup)
    (λ m. ToSettled c m (IsAnswer c m)))

-- the component is read first, and then the matrix, whose setup is run
abbrev pub ToTexts : List ℕ → List ℕ → (Component → Matrix → Answer → Type 0) → Answer → Type 0
ToTexts component matrix IsAnswer =
    ToValue code_of (meaning_of component_grammar component)
    (λ c. ToMatrix c matrix (λ m. ToSettled c m (IsAnswer c m)))

-- A component, or a source, whose component is taken, is read first, and then the matrix, whose
-- setup is run. What a source does is shown in its own words.
abbrev pub ToComponent : List ℕ → (Component → Answer → Type 0) → Answer → Type 0
ToComponent text IsAnswer answer =
    MatchBool (is_source text) (ToValue source_code_of (component_meant text) IsAnswer answer)
    (ToValue code_of (meaning_of component_grammar text) IsAnswer answer)

abbrev pub ToWorded : List ℕ → List ℕ → (Wording → Component → Matrix → Answer → Type 0) → Answer
    → Type 0
ToWorded text matrix IsAnswer =
    ToComponent text (λ c. ToMatrix c matrix (λ m. ToSettled c m (λ answer.
    (how : Wording) × IsWordingOf text how × IsAnswer how c m answer)))

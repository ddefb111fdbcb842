-- Of what is said of a part, the fault with the least line of the part is that for which its reader
-- refuses the text.
use Rattle.std.specs.Prelude.{◌≡◌, ◌⊎◌, ◌<◌, ℕ, All, Any, List, [], ◌∷◌, Option, Some, None, Result, Ok, Err}
use Rattle.std.specs.List.{filter_map}
use Rattle.lu_text.specs.declared.fault.Fault.{Fault as Refused}
use Rattle.lu_text.specs.declared.fault.Fault.TheVariants.{At, Memory}
use Rattle.lu_text.specs.Faults.{meaning_of}
use Rattle.lu_lang.specs.declared.fault.LangFaultKind.{LangFaultKind}
use Rattle.lu_lang.specs.declared.fault.LangFaultKind.TheVariants.{Name}
use Rattle.lu_lang.specs.Grammar.{component_grammar}
use Rattle.lu_test.specs.declared.matrix_fault.MatrixFaultKind.{MatrixFaultKind}
use Rattle.lu_test.specs.declared.schedule_fault.ScheduleFault.{ScheduleFault}
use Rattle.lu_test.specs.Matrix.{Matrix}
use Rattle.lu_test.specs.MatrixText.{matrix_grammar}
use Rattle.lu_test.specs.ScheduleText.{schedule_of}
use Rattle.lu_report.specs.declared.fault.ReportFaultKind.{ReportFaultKind}
use Rattle.lu_report.specs.declared.report.Report.{Report as Reported}
use Rattle.lu_report.specs.Forms.{IsFault, Spells}
use Rattle.lu_spec.specs.declared.fault.SpecFaultKind.{SpecFaultKind}
use Rattle.lu_spec.specs.EveryFreeFault.{ListsGiven}
use Rattle.lu_spec.specs.FreeSpecs.{IsGivenFault}
use Rattle.lu_spec.specs.declared.given.Marks.{Marks}
use Rattle.lu_lint.specs.declared.linting.LintOptions.{LintOptions}
use Rattle.lu_lint.specs.declared.component.ReadComponent.{ReadComponent}
use Rattle.lu_lint.specs.declared.component.ReadComponent.TheVariants as read
use Rattle.lu_lint.specs.declared.remark.Said.{Said}
use Rattle.lu_lint.specs.declared.remark.Cause.{Cause}
use Rattle.lu_lint.specs.declared.remark.Cause.TheVariants.{Fault}
use Rattle.lu_lint.specs.declared.remark.FaultKind.TheVariants as part
use Rattle.lu_lint.specs.declared.part_kind.PartKind.{PartKind}
use Rattle.lu_lint.specs.declared.part_kind.PartKind.TheVariants.{Specification, Report, History, Schedule}
use Rattle.lu_text.specs.Bundle.{meant_parts}
use Rattle.lu_lint.specs.Bundle.{IsSaidOf, component_read, matrix_read}
use Rattle.lu_lint.specs.Schedule.{AgreeOn}
use Rattle.lu_lint.specs.Parts.{kind_of}

-- ---- the faults of a part among what is said: of each its kind, and its line of the part

abbrev pub component_fault : Cause → Option (LangFaultKind × ℕ)
component_fault (Fault (part.Component kind) n) = Some (kind, n)
component_fault cause = None

abbrev pub matrix_fault : Cause → Option (MatrixFaultKind × ℕ)
matrix_fault (Fault (part.Matrix kind) n) = Some (kind, n)
matrix_fault cause = None

abbrev pub report_fault : Cause → Option (ReportFaultKind × ℕ)
report_fault (Fault (part.Report kind) n) = Some (kind, n)
report_fault cause = None

abbrev pub specification_fault : Cause → Option (SpecFaultKind × ℕ)
specification_fault (Fault (part.Specification kind) n) = Some (kind, n)
specification_fault cause = None

-- all faults of a schedule are of its first line
abbrev pub schedule_fault : Cause → Option ScheduleFault
schedule_fault (Fault (part.Schedule kind) n) = Some kind
schedule_fault cause = None

-- ---- the least

-- no fault of the part is said
abbrev pub NoneSaid : {Kind : Type 0} → (Cause → Option (Kind × ℕ)) → List Said → Type 0
NoneSaid fault_of said = All (λ s. fault_of s.cause ≡ None) said

-- a fault of the part is of a line after line n; or it is of line n, and one of these kinds
abbrev pub IsNotBefore : {Kind : Type 0} → ℕ → (Kind → Type 0) → Option (Kind × ℕ) → Type 0
IsNotBefore n kinds None = Unit {0}
IsNotBefore n kinds (Some fault) = (n < fault.1) ⊎ (fault.1 ≡ n) × kinds fault.0

-- This fault of line n of the part is said. Each other fault of the part is of a line after line
-- n; or it is of line n too, and one of these kinds.
pub record IsLeast {Kind : Type 0} (fault_of : Cause → Option (Kind × ℕ)) (kinds : Kind → Type 0)
    (said : List Said) (kind : Kind) (n : ℕ) : Type 0 where
  pub is_said : Any (λ s. fault_of s.cause ≡ Some (kind, n)) said
  pub others : All (λ s. IsNotBefore n kinds (fault_of s.cause)) said

-- a fault of the same line of the part is the same
abbrev pub Same : {Kind : Type 0} → Kind → Kind → Type 0
Same kind other = other ≡ kind

-- or it is that of a jump to a label that is not there, of an operation that the line closes
abbrev pub SameOrJump : LangFaultKind → LangFaultKind → Type 0
SameOrJump kind other = (other ≡ kind) ⊎ (other ≡ Name)

-- Where its reader reads the text, no fault of the part is said; else that is the least for which
-- the reader refuses it.
abbrev pub LeastIsReaders : {Kind A : Type 0} → (Cause → Option (Kind × ℕ))
    → (Kind → Kind → Type 0)
    → Result A (Refused Kind)
    → List Said
    → Type 0
LeastIsReaders fault_of beside (Ok x) said = NoneSaid fault_of said
LeastIsReaders fault_of beside (Err Memory) said = ⊥
LeastIsReaders fault_of beside (Err (At kind n)) said =
    IsLeast fault_of (beside kind) said kind n

-- The same of a reader that is known by the texts that it reads, and by the faults for which it
-- refuses the others.
abbrev pub ReadsOrLeast : {Kind : Type 0} → (Cause → Option (Kind × ℕ)) → Type 0
    → (Kind → ℕ → Type 0)
    → List Said
    → Type 0
ReadsOrLeast {Kind} fault_of reads refuses said =
    reads × NoneSaid fault_of said
    ⊎ (kind : Kind) × (n : ℕ) × refuses kind n × IsLeast fault_of (Same kind) said kind n

-- ---- the parts

abbrev pub ComponentLeast : List ℕ → List Said → Type 0
ComponentLeast text said =
    LeastIsReaders component_fault SameOrJump (meaning_of component_grammar text) said

-- where the component is read
abbrev pub MatrixLeast : ReadComponent → List ℕ → List Said → Type 0
MatrixLeast (read.Faulty f) text said = Unit {0}
MatrixLeast (read.Sound c) text said =
    LeastIsReaders matrix_fault Same (meaning_of (matrix_grammar c) text) said

-- where the matrix is read
abbrev pub SpecificationLeast : Marks → Option Matrix → List ℕ → List Said → Type 0
SpecificationLeast marks None text said = Unit {0}
SpecificationLeast marks (Some matrix) text said =
    ReadsOrLeast specification_fault (ListsGiven marks matrix text)
    (λ kind n. IsGivenFault marks matrix text (At kind n)) said

abbrev pub ReportLeast : List ℕ → List Said → Type 0
ReportLeast text said =
    ReadsOrLeast report_fault ((report : Reported) × Spells text report)
    (λ kind n. IsFault text (At kind n)) said

-- of the faults of a schedule, all of one line, the reader's is said first
abbrev pub ScheduleFirst : List ℕ → List Said → Type 0
ScheduleFirst text said =
    AgreeOn (schedule_of text) (filter_map (λ s. schedule_fault s.cause) said)

-- of a third part that is this
abbrev pub ThirdLeast : Marks → PartKind → Option Matrix → List ℕ → List Said → Type 0
ThirdLeast marks Specification matrix text said = SpecificationLeast marks matrix text said
ThirdLeast marks Report matrix text said = ReportLeast text said
ThirdLeast marks Schedule matrix text said = ScheduleFirst text said
ThirdLeast marks History matrix text said = Unit {0}

-- of the part after it, where that is a specification
abbrev pub FourthLeast : Marks → PartKind → Option Matrix → List (List ℕ) → List Said → Type 0
FourthLeast marks third matrix [] said = Unit {0}
FourthLeast marks Report matrix (text ∷ texts) said = SpecificationLeast marks matrix text said
FourthLeast marks Schedule matrix (text ∷ texts) said = SpecificationLeast marks matrix text said
FourthLeast marks Specification matrix (text ∷ texts) said = Unit {0}
FourthLeast marks History matrix (text ∷ texts) said = Unit {0}

-- of the parts after a matrix that is read or not
abbrev pub FurtherLeast : Marks → Option Matrix → List (List ℕ) → List Said → Type 0
FurtherLeast marks matrix [] said = Unit {0}
FurtherLeast marks matrix (text ∷ texts) said =
    ThirdLeast marks (kind_of text) matrix text said × FourthLeast marks (kind_of text) matrix texts said

-- of all parts
abbrev pub PartsLeast : Marks → List (List ℕ) → List Said → Type 0
PartsLeast marks [] said = Unit {0}
PartsLeast marks (component ∷ []) said = ComponentLeast component said
PartsLeast marks (component ∷ matrix ∷ parts) said =
    ComponentLeast component said × MatrixLeast (component_read component) matrix said
    × FurtherLeast marks (matrix_read (component_read component) matrix) parts said

-- whatever is said of a bundle, of each of its parts the least is the reader's
abbrev pub ReadersAreLeast : Type 0
ReadersAreLeast =
    (options : LintOptions) (bundle : List ℕ) (said : List Said) → IsSaidOf options bundle said
    → PartsLeast options.marks (meant_parts bundle) said

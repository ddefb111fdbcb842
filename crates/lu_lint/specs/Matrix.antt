-- The faults of a matrix's text: each message stands on its fault's line.
use Rattle.std.specs.Prelude.{◌≡◌, ℕ, Bool, List, [], ◌∷◌, ◌++◌, Option, Some, None, Result, IfOk, Vec, if◌then◌else◌}
use Rattle.std.specs.Result.{result_ok}
use Rattle.lu_component.specs.Component.{Component, IsComponent}
use Rattle.lu_text.specs.Faults.{going_on, meaning_of_lines}
use Rattle.lu_test.specs.declared.matrix_fault.MatrixFaultKind.{MatrixFaultKind}
use Rattle.lu_test.specs.Matrix.{IsOf, Matrix}
use Rattle.lu_test.specs.MatrixText.{MatrixDraft, IsDraft, finished, grammar_by, line_of, matrix_of}
use Rattle.lu_test.specs.MatrixGoing.{mend}
use Rattle.lu_test.specs.Signatures.{Signature, signatures}
use Rattle.lu_lint.specs.declared.matrix.LeftLines.{LeftLines}
use Rattle.lu_lint.specs.declared.remark.Position.{Position}
use Rattle.lu_lint.specs.declared.remark.Remark.{Remark}
use Rattle.lu_lint.specs.declared.remark.Said.{Said}
use Rattle.lu_lint.specs.declared.remark.FaultKind.TheVariants as part
use Rattle.lu_lint.specs.Lint.{Lint, message_here}
use Rattle.lu_lint.specs.Said.{said_of, said_of_lines, message_said}

-- what a line with a fault leaves, whatever stands after it
abbrev pub matrix_mend : MatrixDraft → List ℕ → List (List ℕ) → MatrixDraft
matrix_mend d line lines = mend d line

-- how a matrix is read whose calls are judged by these signatures
abbrev pub matrix_lint : List Signature → Lint MatrixFaultKind MatrixDraft Matrix
matrix_lint all =
    record {
      grammar = grammar_by all;
      mend = matrix_mend;
      backs = λ d line kind. [];
      others = λ d line lines kind. [];
      end_others = λ d. [];
      of = part.Matrix;
    }

-- how a matrix of a component is read
abbrev pub lint_of : Component → Lint MatrixFaultKind MatrixDraft Matrix
lint_of c = matrix_lint (signatures c.operations)

-- the draft from which the lines after a line are read, where the line left this or has a fault
abbrev pub left_by : MatrixDraft → List ℕ → Option MatrixFaultKind → MatrixDraft
left_by d line None = d
left_by d line (Some kind) = mend d line

-- what is said of a fault of the line that stands here, where it has one
abbrev pub fault_said : Position → Option MatrixFaultKind → List Said
fault_said at None = []
fault_said at (Some kind) = message_said part.Matrix at.above (message_here at.line kind) ∷ []

-- the matrix of what lines left that have no fault, or have some
abbrev pub matrix_if : MatrixDraft → Bool → Option Matrix
matrix_if d sound = if sound then result_ok (finished d) else None

-- a line after this draft: the draft after it, or the one before it and the line's fault
abbrev pub line_read : List Signature → MatrixDraft → List ℕ
    → MatrixDraft × Option MatrixFaultKind
line_read all d line = going_on d (line_of all d line)

-- A line at which what was said before is said, and its fault, and which leaves this draft and has
-- this fault or none.
pub record LeavesDraft (all : List Signature) (at : Position) (d : MatrixDraft) (line : List ℕ)
    (before next : List Said) (left : MatrixDraft) (fault : Option MatrixFaultKind)
    : Type 0 where
  pub said : next ≡ before ++ fault_said at (line_read all d line).1
  pub left_is : left ≡ left_by (line_read all d line).0 line (line_read all d line).1
  pub fault_is : fault ≡ (line_read all d line).1

-- the draft is read so, where that succeeds, and these remarks are those before with what is said
abbrev pub ReadsDraft : {E Y Z : Type 0}
    → Result (Vec Remark Z × MatrixDraft × Option MatrixFaultKind) E → Vec Remark Y
    → List Signature → Position → MatrixDraft → List ℕ → Type 0
ReadsDraft result before all at d line =
    IfOk result (λ (next, left, fault).
    LeavesDraft all at d line (said_of before.items) (said_of next.items) left fault)

-- the calls are those of any component whose operations have these signatures
abbrev pub FitsBy : List Signature → MatrixDraft → Type 0
FitsBy all d =
    (c : Component) → IsComponent c → all ≡ signatures c.operations
    → IsDraft d × IsOf (matrix_of d) c

-- where it succeeds, the lines of a matrix are linted by these signatures: that is said of them,
-- and they leave a draft, of which the matrix is made where they have no fault
abbrev pub LintsMatrixLines : {E Y Z : Type 0} → Result (Vec Remark Z × LeftLines) E
    → Vec Remark Y
    → List Signature
    → ℕ
    → List (List ℕ)
    → Type 0
LintsMatrixLines result before all above lines =
    IfOk result
    (λ (next, left).
    (said_of next.items ≡ said_of before.items ++ said_of_lines (matrix_lint all) above lines)
    × (matrix_if left.draft left.sound ≡ result_ok (meaning_of_lines (grammar_by all) lines)))

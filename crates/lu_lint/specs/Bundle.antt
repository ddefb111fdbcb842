-- The parts of a bundle, and what is said of it.
use Rattle.std.specs.Prelude.{◌≡◌, ℕ, ◌+◌, Bool, Option, None, IsPermutation, List, [], ◌∷◌, ◌++◌, length, nat_le, ◌&&◌, not, if◌then◌else◌, Result, Vec}
use Rattle.std.specs.List.Sorted.{IsStableByKey}
use Rattle.std.specs.Ordering.{nat_cmp}
use Rattle.std.specs.Result.{result_ok}
use Rattle.lu_text.specs.Faults.{meaning_of}
use Rattle.lu_text.specs.Bundle.{is_meant_as_separator, is_separator, meant_parts}
use Rattle.lu_text.specs.Lines.{kept_lines, lines_of}
use Rattle.lu_component.specs.declared.component.TheConstants.{MOST_OPS}
use Rattle.lu_lang.specs.Grammar.{component_grammar}
use Rattle.lu_lint.specs.declared.linting.LintOptions.{LintOptions}
use Rattle.lu_lint.specs.declared.remark.Remark.{Remark}
use Rattle.lu_lint.specs.declared.remark.Said.{Said}
use Rattle.lu_lint.specs.declared.remark.Cause.TheVariants.{Separator}
use Rattle.lu_test.specs.Matrix.{Matrix}
use Rattle.lu_test.specs.MatrixText.{matrix_grammar}
use Rattle.lu_lint.specs.Further.{AfterMatrix}
use Rattle.lu_lint.specs.Component.{component_lint, faulty_of_lines, read_of_lines, read_or_left}
use Rattle.lu_lint.specs.Matrix.{lint_of, matrix_lint}
use Rattle.lu_lint.specs.declared.component.ReadComponent.{ReadComponent}
use Rattle.lu_lint.specs.declared.component.ReadComponent.TheVariants as read
use Rattle.lu_lint.specs.Signatures.{signatures_meant}
use Rattle.lu_lint.specs.Said.{SaysAndReads, SaysFurther, above_next, said_of_lines, said_of_text}
use Rattle.lu_lint.specs.Warnings.{Possible, held, warnings_of_lines}
use Rattle.lu_lint.specs.Runs.{RunsSaid}

-- ---- the lines between the parts

-- meant to part, and parts nothing
abbrev pub is_blurred : List ℕ → Bool
is_blurred line = is_meant_as_separator line && not (is_separator line)

-- what is said of such a line, which is line n
abbrev pub separator_said : ℕ → List ℕ → List Said
separator_said n line =
    if is_blurred line then record { line = n; cause = Separator } ∷ [] else []

-- what is said of such lines, of which the first is line n
abbrev pub separators_from : ℕ → List (List ℕ) → List Said
separators_from n [] = []
separators_from n (line ∷ lines) = separator_said n line ++ separators_from (n + 1) lines

-- ---- the parts

-- what a component's text is read as: the component, where it has no fault, and else what its lines
-- leave
abbrev pub component_read : List ℕ → ReadComponent
component_read text =
    read_or_left (meaning_of component_grammar text) (faulty_of_lines (lines_of text))

-- the matrix of a text, where it and its component are read
abbrev pub matrix_read : ReadComponent → List ℕ → Option Matrix
matrix_read (read.Faulty f) text = None
matrix_read (read.Sound c) text = result_ok (meaning_of (matrix_grammar c) text)

-- what is said of a matrix by its component; after one with faults by the signatures that it was to
-- have, where these are no more than a component may have
abbrev pub matrix_said : ReadComponent → ℕ → List ℕ → List Said
matrix_said (read.Faulty f) above text =
    if nat_le (length (signatures_meant f)) MOST_OPS
    then said_of_text (matrix_lint (signatures_meant f)) above text
    else []
matrix_said (read.Sound c) above text = said_of_text (lint_of c) above text

-- where it succeeds, the matrix is linted: that is said of it, and it is read, where it and its
-- component have no fault
abbrev pub LintsMatrix : {E Y Z : Type 0} → Result (Vec Remark Z × Option Matrix) E → Vec Remark Y
    → ReadComponent → ℕ → List ℕ → Type 0
LintsMatrix result before c above text =
    SaysAndReads result before (matrix_said c above text) (matrix_read c text)

-- what is said of those of these warnings that hold, where the component is read
abbrev pub held_of : ReadComponent → List Possible → List Said
held_of (read.Faulty f) warnings = []
held_of (read.Sound c) warnings = held c warnings

-- the warnings of a component that is read, from these lines
abbrev pub warnings_said : ReadComponent → List (List ℕ) → List Said
warnings_said (read.Faulty f) lines = []
warnings_said (read.Sound c) lines = warnings_of_lines c lines

-- what is said of the lines of a component
abbrev pub component_lines_said : List (List ℕ) → List Said
component_lines_said lines =
    said_of_lines component_lint 0 lines ++ warnings_said (read_of_lines lines) lines

-- what is said of a component
abbrev pub component_said : List ℕ → List Said
component_said text =
    said_of_text component_lint 0 text ++ warnings_said (component_read text) (lines_of text)

-- where it succeeds, the lines of a component are linted: that is said of them, and they are read
-- as that
abbrev pub LintsComponentLines : {E Y Z : Type 0} → Result (Vec Remark Z × ReadComponent) E
    → Vec Remark Y → List (List ℕ) → Type 0
LintsComponentLines result before lines =
    SaysAndReads result before (component_lines_said lines) (read_of_lines lines)

-- what is said on a matrix, before which this many lines stand: of it, of the parts after it, and
-- by runs
abbrev pub OnMatrix : LintOptions → ReadComponent → ℕ → List ℕ → List (List ℕ) → List Said → Type 0
OnMatrix options c above matrix parts said =
    (further : List Said) × (runs : List Said)
    × AfterMatrix options.marks (matrix_read c matrix) (above_next above matrix) parts further
    × RunsSaid options.serial c (matrix_read c matrix) above matrix runs
    × (said ≡ matrix_said c above matrix ++ (further ++ runs))

-- what is said of the parts after a component, before which this many lines stand
abbrev pub AfterComponent : LintOptions → ReadComponent → ℕ → List (List ℕ) → List Said → Type 0
AfterComponent options c above [] said = said ≡ []
AfterComponent options c above (matrix ∷ parts) said = OnMatrix options c above matrix parts said

-- what is said of the parts
abbrev pub PartsSaid : LintOptions → List (List ℕ) → List Said → Type 0
PartsSaid options [] said = said ≡ []
PartsSaid options (component ∷ parts) said =
    SaysFurther (AfterComponent options (component_read component) (above_next 0 component) parts)
    (component_said component) said

-- what is said of a bundle, with these options
abbrev pub BundleSaid : LintOptions → List ℕ → List Said → Type 0
BundleSaid options bundle said =
    SaysFurther (PartsSaid options (meant_parts bundle))
    (separators_from 1 (kept_lines bundle)) said

-- this is said of a bundle, in any order of the lines; on each line in the order of what is found
abbrev pub IsSaidOf : LintOptions → List ℕ → List Said → Type 0
IsSaidOf options bundle said =
    (found : List Said) × BundleSaid options bundle found × IsPermutation found said
    × IsStableByKey (λ s. s.line) nat_cmp found said

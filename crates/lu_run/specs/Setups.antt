-- The text of a setup.
use Rattle.std.specs.Prelude.{ℕ, List, [], ◌∷◌, Result, Ok}
use Rattle.std.specs.Option.{unwrap_or}
use Rattle.lu_text.specs.Faults.{Grammar, meaning_of_lines}
use Rattle.lu_text.specs.declared.fault.Fault.{Fault}
use Rattle.lu_component.specs.Component.{Component}
use Rattle.lu_test.specs.Matrix.{Matrix, matrix_with}
use Rattle.lu_test.specs.MatrixText.{MatrixDraft, line_of, nothing}
use Rattle.lu_test.specs.Signatures.{signatures}
use Rattle.lu_test.specs.declared.matrix_fault.MatrixFaultKind.{MatrixFaultKind}

-- the matrix of the setup that was read, and of one thread without calls
abbrev pub setup_matrix : MatrixDraft → Matrix
setup_matrix draft = matrix_with (unwrap_or draft.setup []) ([] ∷ [])

abbrev pub setup_read : MatrixDraft → Result Matrix MatrixFaultKind
setup_read draft = Ok (setup_matrix draft)

-- The text of a setup has the lines of a matrix's text, and may lack threads. Those that it has
-- don't count.
abbrev pub setup_grammar : Component → Grammar MatrixFaultKind MatrixDraft Matrix
setup_grammar c =
    record { nothing = nothing; line = line_of (signatures c.operations); finish = setup_read }

-- the matrix of the setup that these lines say, or their first fault
abbrev pub setup_said : Component → List (List ℕ) → Result Matrix (Fault MatrixFaultKind)
setup_said c lines = meaning_of_lines (setup_grammar c) lines

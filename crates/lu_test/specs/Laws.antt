-- What holds of the texts of matrices.
use Rattle.std.specs.Prelude.{◌≡◌, Ok}
use Rattle.lu_text.specs.Faults.{meaning_of}
use Rattle.lu_component.specs.Component.{Component, IsComponent}
use Rattle.lu_test.specs.Matrix.{Matrix, IsMatrix, IsOf}
use Rattle.lu_test.specs.MatrixText.{matrix_grammar, matrix_text}

-- what is written of a component's matrix is read as it was
abbrev pub RoundTrip : Type 0
RoundTrip =
    (c : Component) (matrix : Matrix) → IsComponent c → IsMatrix matrix → IsOf matrix c
    → meaning_of (matrix_grammar c) (matrix_text c matrix) ≡ Ok matrix

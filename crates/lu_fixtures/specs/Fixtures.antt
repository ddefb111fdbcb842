-- What the texts of a fixture mean.
use Rattle.std.specs.Prelude.{◌≡◌, ℕ, List, Ok}
use Rattle.lu_text.specs.Faults.{meaning_of}
use Rattle.lu_lang.specs.Grammar.{component_grammar}
use Rattle.lu_test.specs.MatrixText.{matrix_grammar}
use Rattle.lu_fixtures.specs.declared.Fixture.{Fixture}

-- the first text is that of the component, and the second that of its matrix
pub record IsOfTexts (component matrix : List ℕ) (fixture : Fixture) : Type 0 where
  pub component_is : meaning_of component_grammar component ≡ Ok fixture.component
  pub matrix_is : meaning_of (matrix_grammar fixture.component) matrix ≡ Ok fixture.matrix

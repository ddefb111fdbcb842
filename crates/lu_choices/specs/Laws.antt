-- What the numbers of choices are.
use Rattle.std.specs.Prelude.{◌≡◌, ℕ, ◌<◌, List}
use Rattle.lu_choices.specs.Choices.{IsBefore, IsChoiceIn, choice_count, number_in}

-- The numbers of the choices are those below their count, each of one choice, and what comes before
-- has a lesser number.
pub record ChoicesNumbered : Type 0 where
  pub below : (bases choice : List ℕ) → IsChoiceIn bases choice
      → number_in bases choice < choice_count bases
  pub each : (bases : List ℕ) (n : ℕ) → n < choice_count bases
      → (choice : List ℕ) × IsChoiceIn bases choice × (number_in bases choice ≡ n)
  pub one : (bases u v : List ℕ) → IsChoiceIn bases u → IsChoiceIn bases v
      → number_in bases u ≡ number_in bases v → u ≡ v
  pub ordered : (bases u v : List ℕ) → IsChoiceIn bases u → IsChoiceIn bases v
      → IsBefore u v → number_in bases u < number_in bases v

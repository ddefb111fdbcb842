-- What is said of all matrices of a slice, or of the first that is not so.
use Rattle.std.specs.Prelude.{◌≡◌, ℕ, ◌-◌, min, List}
use Rattle.lu_test.specs.Matrix.{Matrix}
use Rattle.lu_refine.specs.Choices.{IsBefore}
use Rattle.lu_refine.specs.ByThread.{Asked, IsWithinSlice, matrix_count, role_matrix}

-- how many matrices have a number that is at least `from` and less than `to`
abbrev pub slice_size : Asked → ℕ → ℕ → ℕ
slice_size asked from to = min to (matrix_count asked) - from

-- each choice of the slice is so, and this is their number
pub record AreAllSo (asked : Asked) (from to : ℕ) (IsSo : List ℕ → Type 0) (count : ℕ)
    : Type 0 where
  pub number : count ≡ slice_size asked from to
  pub each : (choice : List ℕ) → IsWithinSlice asked from to choice → IsSo choice

-- the matrix is that of a choice of the slice that is otherwise; each choice of the slice before it
-- is so
pub record IsFirstOther (asked : Asked) (from to : ℕ) (IsSo IsOther : List ℕ → Type 0)
    (matrix : Matrix) : Type 0 where
  pub choice : List ℕ
  pub within : IsWithinSlice asked from to choice
  pub is : matrix ≡ role_matrix asked choice
  pub other : IsOther choice
  pub before : (earlier : List ℕ) → IsWithinSlice asked from to earlier → IsBefore earlier choice
      → IsSo earlier

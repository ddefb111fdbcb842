-- Choices of candidates: for each position of a matrix the number of one of them.
use Rattle.std.specs.Prelude.{◌≡◌, ℕ, ◌<◌, ◌≤◌, List, [], length, map, All, slice_index_or}
use Rattle.std.specs.Simd.{first_chunks}
pub use Rattle.lu_choices.specs.Choices.{IsBefore, IsChoiceIn, choice_count, number_in}
use Rattle.lu_test.specs.declared.matrix.Call.{Call}
use Rattle.lu_test.specs.Matrix.{Matrix}

-- ---- where each position has candidates of its own

-- 1 to 8 candidates
abbrev pub AreEnough : ℕ → Type 0
AreEnough candidates = (1 ≤ candidates) × (candidates ≤ 8)

-- the candidate with this number
abbrev pub candidate_at : List Call → ℕ → Call
candidate_at candidates n = slice_index_or candidates n (record { op = 0; args = [] })

-- ---- where all positions have the same

-- the number of a candidate for each position
abbrev pub IsChoice : ℕ → ℕ → List ℕ → Type 0
IsChoice candidates positions choice =
    (length choice ≡ positions) × All (λ n. n < candidates) choice

-- the calls of this many threads, this many of each: the candidates with these numbers, thread 0's
-- calls first
abbrev pub filled : List Call → ℕ → ℕ → List ℕ → List (List Call)
filled candidates threads calls choice =
    map (λ row. map (candidate_at candidates) row) (first_chunks calls threads choice)

-- the matrix of these threads, with the setup
abbrev pub filled_matrix : List Call → List Call → ℕ → ℕ → List ℕ → Matrix
filled_matrix setup candidates threads calls choice =
    record { setup = setup; threads = filled candidates threads calls choice }

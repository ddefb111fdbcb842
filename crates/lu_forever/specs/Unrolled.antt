-- The matrix in which each thread makes so many calls of its line, made over and over.
use Rattle.std.specs.Prelude.{ℕ, ◌+◌, ◌≤◌, List, [], ◌∷◌, length, slice_get, take, unwrap_or}
use Rattle.lu_test.specs.declared.matrix.Call.{Call}
use Rattle.lu_test.specs.Matrix.{Matrix, calls_of}
use Rattle.lu_client.specs.Rounds.{repeated}
use Rattle.lu_answers.specs.declared.rounds.Rounds.{Rounds}
use Rattle.lu_answers.specs.declared.rounds.Rounds.TheVariants.{Any, One}

-- the first n calls of the line, made over and over: none where the line is empty
abbrev pub first_of_rounds : List Call → ℕ → List Call
first_of_rounds line n = take n (repeated n line)

-- number t of these, or 0 where there is none
abbrev pub count_at : List ℕ → ℕ → ℕ
count_at counts t = unwrap_or (slice_get counts t) 0

-- of each of these lines, that of thread t first, as many calls as its count says
abbrev pub rows_from : List ℕ → List (List Call) → ℕ → List (List Call)
rows_from counts [] t = []
rows_from counts (line ∷ lines) t =
    first_of_rounds line (count_at counts t) ∷ rows_from counts lines (t + 1)

-- no thread makes more calls than its line has, made this often
abbrev pub AreWithin : Rounds → List ℕ → Matrix → Type 0
AreWithin One counts matrix = (t : ℕ) → count_at counts t ≤ length (calls_of matrix t)
AreWithin Any counts matrix = Unit {0}

-- the matrix in which thread t makes as many calls of its line as its count says
abbrev pub unrolled : Matrix → List ℕ → Matrix
unrolled matrix counts = record {
  setup = matrix.setup;
  threads = rows_from counts matrix.threads 0;
}

-- Cuts of a matrix: of each thread some of its first calls.
use Rattle.std.specs.Prelude.{◌≡◌, ℕ, ◌≤◌, List, length}
use Rattle.std.specs.List.{AllZip}
use Rattle.lu_test.specs.Matrix.{Matrix, cut}

-- a length of each thread, at most its number of calls
abbrev pub AreLengths : Matrix → List ℕ → Type 0
AreLengths matrix lengths = AllZip (λ calls n. n ≤ length calls) matrix.threads lengths

-- the smaller matrix has of each thread some of its first calls, and no others
abbrev pub IsCutOf : Matrix → Matrix → Type 0
IsCutOf matrix smaller =
    (lengths : List ℕ) × AreLengths matrix lengths × (smaller ≡ cut matrix lengths)

-- A matrix cut to all its calls is the matrix.
use Rattle.std.proofs.Common.{◌≡◌, ℕ, ◌+◌, ◌<◌, ◌≤◌, List, [], ◌∷◌, ◌++◌, length, map, take, Option, refl, ap, arith}
use Rattle.std.specs.List.{AllZip}
use Rattle.std.specs.Option.{unwrap_or}
use Rattle.std.proofs.lemmas.List.{take_more, take_all, map-append}
use Rattle.std.proofs.Math.Seq.{take-length}
use Rattle.std.proofs.lemmas.Option.{slice_get-get_or}
use Rattle.lu_test.specs.declared.matrix.Call.{Call}
use Rattle.lu_test.specs.Matrix.{Matrix, calls_of, cut, first_calls}

-- the length of each thread's calls
abbrev pub lengths_of : List (List Call) → List ℕ
lengths_of threads = map (λ (calls : List Call). length calls) threads

pub all_fit : (threads : List (List Call)) → AllZip (λ (calls : List Call) n. n ≤ length calls) threads (lengths_of threads)
all_fit [] = tt
all_fit (calls ∷ threads) = (omega arith, all_fit threads)

all_calls : (threads : List (List Call)) → first_calls threads (lengths_of threads) ≡ threads
all_calls [] = refl
all_calls (calls ∷ threads) = rw (take-length calls, all_calls threads) refl

pub cut_all : (matrix : Matrix) → cut matrix (lengths_of matrix.threads) ≡ matrix
cut_all matrix = ap (λ (rows : List (List Call)). let x : Matrix = record matrix { threads = rows } in x) (all_calls matrix.threads)

-- one thread more
pub lengths_more : (matrix : Matrix) (t : ℕ) → t < length matrix.threads
    → lengths_of (take t matrix.threads) ++ length (calls_of matrix t) ∷ [] ≡ lengths_of (take (t + 1) matrix.threads)
lengths_more matrix t h =
    let there = ap (λ (o : Option (List Call)). unwrap_or o []) (slice_get-get_or matrix.threads t [] h) in
    rw (take_more matrix.threads t [] h, map-append, there) refl

pub lengths_whole : (matrix : Matrix) (t : ℕ) → length matrix.threads ≤ t → lengths_of (take t matrix.threads) ≡ lengths_of matrix.threads
lengths_whole matrix t h = ap lengths_of (take_all t matrix.threads h)

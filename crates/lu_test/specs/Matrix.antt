-- Matrices: the calls of a setup, and for each thread the calls that it makes.
use Rattle.std.specs.Prelude.{◌≡◌, ℕ, ◌<◌, ◌≤◌, ◌^◌, List, [], ◌∷◌, length, take, remove, slice_set, All, slice_get, sum_by, unwrap_or, IsSomeAnd}
use Rattle.lu_component.specs.declared.component.Op.{Op}
use Rattle.lu_component.specs.Component.{Component, IsComponent}
use Rattle.lu_test.specs.declared.matrix.Call.{Call}

-- the calls that are made before the start, and those of each thread
pub record Matrix : Type 0 where
  pub setup : List Call
  pub threads : List (List Call)

-- the matrix of this setup and these threads
abbrev pub matrix_with : List Call → List (List Call) → Matrix
matrix_with setup threads = record { setup = setup; threads = threads }

-- the number of threads
abbrev pub thread_count : Matrix → ℕ
thread_count matrix = length matrix.threads

-- row t: empty where there is no such row
abbrev pub row_of : List (List Call) → ℕ → List Call
row_of rows t = unwrap_or (slice_get rows t) []

-- the calls of thread t: none where there is no such thread
abbrev pub calls_of : Matrix → ℕ → List Call
calls_of matrix t = row_of matrix.threads t

-- the number of calls of all threads
abbrev pub total_calls : Matrix → ℕ
total_calls matrix = sum_by length matrix.threads

-- at most 4 numbers of 32 bits
abbrev pub AreArguments : List ℕ → Type 0
AreArguments arguments = (length arguments ≤ 4) × All (λ n. n < 2 ^ 32) arguments

-- at most 8 threads, of each at most 8 calls and 16 in all, at most 4 arguments of each
pub record AreThreads (threads : List (List Call)) : Type 0 where
  pub few : length threads ≤ 8
  pub each : All (λ calls. length calls ≤ 8) threads
  pub calls : sum_by length threads ≤ 16
  pub arguments : All (λ calls. All (λ call. AreArguments call.args) calls) threads

-- at most 8 calls, at most 4 arguments of each
pub record IsSetup (calls : List Call) : Type 0 where
  pub few : length calls ≤ 8
  pub arguments : All (λ call. AreArguments call.args) calls

-- among the operations is the call's, with as many arguments
abbrev pub IsCallAmong : List Op → Call → Type 0
IsCallAmong operations call =
    IsSomeAnd (slice_get operations call.op) (λ op. length call.args ≡ op.args)

-- the component has the call's operation, with as many arguments
abbrev pub IsCallOf : Component → Call → Type 0
IsCallOf c call = IsCallAmong c.operations call

-- the component has the operation of each call, with as many arguments
abbrev pub IsOf : Matrix → Component → Type 0
IsOf matrix c = All (IsCallOf c) matrix.setup × All (λ calls. All (IsCallOf c) calls) matrix.threads

-- some component has the operation of each call, with as many arguments
unfoldable pub IsOfSome : Matrix → Type 0
IsOfSome matrix = (c : Component) × IsComponent c × IsOf matrix c

-- A matrix of some component: the limits of the setup and of the threads hold, and there is a
-- thread.
pub record IsMatrix (matrix : Matrix) : Type 0 where
  pub some : 1 ≤ thread_count matrix
  pub limits : AreThreads matrix.threads
  pub before : IsSetup matrix.setup
  pub of_some : IsOfSome matrix

-- ---- the setup as a matrix of its own

-- one thread that makes these calls, before which none are made
abbrev pub alone : List Call → Matrix
alone calls = record { setup = []; threads = calls ∷ [] }

-- ---- fewer calls

-- the matrix without call k of thread t
abbrev pub without : Matrix → ℕ → ℕ → Matrix
without matrix t k =
    record matrix { threads = slice_set matrix.threads t (remove (calls_of matrix t) k) }

-- the first calls of each thread, as many as its length says
abbrev pub first_calls : List (List Call) → List ℕ → List (List Call)
first_calls [] lengths = []
first_calls (calls ∷ threads) [] = []
first_calls (calls ∷ threads) (n ∷ lengths) = take n calls ∷ first_calls threads lengths

-- the matrix of each thread's first calls, as many as its length says
abbrev pub cut : Matrix → List ℕ → Matrix
cut matrix lengths = record matrix { threads = first_calls matrix.threads lengths }

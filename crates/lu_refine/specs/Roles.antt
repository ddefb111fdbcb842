-- Threads that have candidates of their own.
use Rattle.std.specs.Prelude.{ℕ, ◌≤◌, List, [], ◌∷◌, ◌++◌, length, map, take, drop, replicate, All, Any}
use Rattle.lu_component.specs.Component.{Component}
use Rattle.lu_test.specs.declared.matrix.Call.{Call}
use Rattle.lu_test.specs.Matrix.{Matrix}
use Rattle.lu_refine.specs.Campaigns.{AreCallsOf, HaveArguments}
use Rattle.lu_refine.specs.Choices.{candidate_at}

-- how many calls a thread makes that has these candidates: none where it has none
abbrev pub calls_per_thread : ℕ → List Call → ℕ
calls_per_thread calls [] = 0
calls_per_thread calls (candidate ∷ others) = calls

-- how many candidates each position has, thread 0's positions first
abbrev pub bases : ℕ → List (List Call) → List ℕ
bases calls [] = []
bases calls (candidates ∷ threads) =
    replicate (calls_per_thread calls candidates) (length candidates) ++ bases calls threads

-- each thread's calls: its candidates with the next numbers of the choice
abbrev pub chosen_calls : ℕ → List (List Call) → List ℕ → List (List Call)
chosen_calls calls [] choice = []
chosen_calls calls (candidates ∷ threads) choice =
    map (candidate_at candidates) (take (calls_per_thread calls candidates) choice)
    ∷ chosen_calls calls threads (drop (calls_per_thread calls candidates) choice)

-- the matrix of these threads, with the setup
abbrev pub rows_matrix : List Call → ℕ → List (List Call) → List ℕ → Matrix
rows_matrix setup calls candidates choice =
    record { setup = setup; threads = chosen_calls calls candidates choice }

-- ---- limits

-- 1 to 8 threads; some thread has candidates, and none more than 8
pub record AreRoles (candidates : List (List Call)) : Type 0 where
  pub some_threads : 1 ≤ length candidates
  pub few_threads : length candidates ≤ 8
  pub some_candidates : Any (λ thread. 1 ≤ length thread) candidates
  pub few_candidates : All (λ thread. length thread ≤ 8) candidates

-- 1 to 8 calls of each thread that has candidates, and at most 16 positions
pub record AreRowLimits (calls : ℕ) (candidates : List (List Call)) : Type 0 where
  pub some_calls : 1 ≤ calls
  pub few_calls : calls ≤ 8
  pub positions : length (bases calls candidates) ≤ 16

-- the limits hold
abbrev pub AreWithinLimits : ℕ → List (List Call) → Type 0
AreWithinLimits calls candidates = AreRoles candidates × AreRowLimits calls candidates

-- each thread's candidates are calls of the component
abbrev pub AllCallsOf : Component → List (List Call) → Type 0
AllCallsOf c candidates = All (AreCallsOf c) candidates

-- at most 4 arguments of each, which are numbers of 32 bits
abbrev pub AllHaveArguments : List (List Call) → Type 0
AllHaveArguments candidates = All HaveArguments candidates

-- Where a run starts: after the calls of the setup, which thread 0 makes alone.
use Rattle.std.specs.Prelude.{◌≡◌, ℕ, ◌+◌, ◌<◌, ◌≤◌, zero, suc, false, List, [], ◌∷◌, length, replicate, Option, None, MatchOption}
use Rattle.std.specs.List.{flat_map}
use Rattle.lu_component.specs.declared.component.Array.{Array}
use Rattle.lu_component.specs.Component.{Component}
use Rattle.lu_test.specs.declared.matrix.Call.{Call}
use Rattle.lu_test.specs.declared.schedule.Move.{Move}
use Rattle.lu_test.specs.Matrix.{Matrix, IsOf, alone, thread_count}
use Rattle.lu_machine.specs.declared.event.Event.{Event}
use Rattle.lu_machine.specs.declared.thread.Activity.TheVariants.{Idle}
use Rattle.lu_machine.specs.States.{State, progress}
use Rattle.lu_machine.specs.Runs.{Leads}

-- the cells of an array, each with its initial value
abbrev pub cells_of : Array → List ℕ
cells_of array = replicate array.len array.init

-- the cells of all arrays, one array after the other
abbrev pub initial_cells : List Array → List ℕ
initial_cells arrays = flat_map cells_of arrays

-- these cells and locks; threads are idle, and no call is made
abbrev pub at_rest : Component → Matrix → List ℕ → List (Option ℕ) → State
at_rest c matrix cells locks = record {
  component = c;
  matrix = matrix;
  cells = cells;
  locks = locks;
  threads = replicate (thread_count matrix) (record { done = 0; activity = Idle });
}

-- each cell has its array's initial value, locks are free, threads are idle, and no call is made
abbrev pub empty_state : Component → Matrix → State
empty_state c matrix = at_rest c matrix (initial_cells c.arrays) (replicate (length c.locks) None)

-- the move of thread 0 with pick 0
abbrev pub first_move : Move
first_move = record { thread = 0; pick = 0 }

-- From s thread 0 makes call k, which ends within 256 moves after the call, each pick 0: in the
-- state `end`.
pub record Makes (s : State) (k : ℕ) (end : State) : Type 0 where
  pub moves : ℕ
  pub few : moves ≤ 256
  pub history : List Event
  pub leads : Leads s (first_move ∷ replicate moves first_move) end history
  pub ended : progress end ≡ (k + 1, false) ∷ []

-- From the empty state one thread makes the first k of these calls so, and no other move is made.
abbrev pub MakesAll : Component → List Call → ℕ → State → Type 0
MakesAll c calls zero end = end ≡ empty_state c (alone calls)
MakesAll c calls (suc k) end = (before : State) × MakesAll c calls k before × Makes before k end

-- the setup's calls lead from the empty state to the state `end`
abbrev pub SetsUp : Component → Matrix → State → Type 0
SetsUp c matrix end = MakesAll c matrix.setup (length matrix.setup) end

-- A run of the component and the matrix starts in the state s: the setup leaves its cells and
-- locks.
pub record IsStart (c : Component) (matrix : Matrix) (s : State) : Type 0 where
  pub end : State
  pub made : SetsUp c matrix end
  pub is : s ≡ at_rest c matrix end.cells end.locks

-- call k of these is the first that does not end within 256 moves after it
pub record IsFirstOpen (c : Component) (calls : List Call) (k : ℕ) : Type 0 where
  pub there : k < length calls
  pub before : State
  pub made : MakesAll c calls k before
  pub open_still : (end : State) → Makes before k end → ⊥

-- each of these calls ends within 256 moves after it: none is the first that does not
pub record AllEnd (c : Component) (calls : List Call) : Type 0 where
  pub none_open : (k : ℕ) → IsFirstOpen c calls k → ⊥

-- each call of the setup ends
abbrev pub Settles : Component → Matrix → Type 0
Settles c matrix = AllEnd c matrix.setup

-- none where all these calls were made, which leads to the state `end`; else the first that does
-- not end
abbrev pub IsMaking : Component → List Call → Option ℕ → State → Type 0
IsMaking c calls unsettled end =
    MatchOption unsettled (MakesAll c calls (length calls) end) (IsFirstOpen c calls)

-- call k of the setup is the first that does not end
abbrev pub IsUnsettledAt : Component → Matrix → ℕ → Type 0
IsUnsettledAt c matrix k = IsFirstOpen c matrix.setup k

-- none where each call of the setup ends, else the first that does not end
abbrev pub IsFirstUnsettled : Component → Matrix → Option ℕ → Type 0
IsFirstUnsettled c matrix unsettled =
    MatchOption unsettled (Settles c matrix) (IsUnsettledAt c matrix)

-- the matrix is one of the component, and its setup settles
pub record CanRun (c : Component) (matrix : Matrix) : Type 0 where
  pub of : IsOf matrix c
  pub settles : Settles c matrix

-- what holds of the state where runs start, if there is one
abbrev pub FromEachStart : Component → Matrix → (State → Type 0) → Type 0
FromEachStart c matrix Holds = (s : State) → IsStart c matrix s → Holds s

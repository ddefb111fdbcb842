-- Serial runs that offend: a call in them takes more moves than the bound, or has two outcomes.
use Rattle.std.specs.Prelude.{◌≡◌, ◌≢◌, ◌⊎◌, ℕ, List, [], ◌∷◌, Some, slice_get}
use Rattle.lu_component.specs.Component.{Component}
use Rattle.lu_test.specs.declared.matrix.Call.{Call as ACall}
use Rattle.lu_machine.specs.declared.position.Position.{Position}
use Rattle.lu_history.specs.declared.serial.SerialOutcome.{SerialOutcome}
use Rattle.lu_client.specs.Alone.{Answers, Overruns, Plays, Rest}
use Rattle.lu_run.specs.declared.automaton.ThreadCall.{ThreadCall}
use Rattle.lu_run.specs.declared.following.FollowFault.{FollowFault}
use Rattle.lu_run.specs.declared.following.FollowFault.TheVariants.{Offends, Memory}
use Rattle.lu_run.specs.declared.following.SerialRuns.{SerialRuns}
use Rattle.lu_run.specs.declared.table.Rests.{Rests}
use Rattle.lu_run.specs.declared.table.Table.{Table}
use Rattle.lu_run.specs.Asking.{HasRest}
use Rattle.lu_run.specs.Tables.{Grows, IsTable}

-- the call, made alone, leads from this rest with this outcome to the rest `after`
abbrev pub NextRest : Component → List ACall → Rest → ThreadCall → SerialOutcome → Rest → Type 0
NextRest c calls rest call outcome after =
    (a : ACall) × (slice_get calls call.call ≡ Some a)
    × Plays c rest call.thread a outcome after

-- the calls of this path, made alone one after another, lead from this rest with these outcomes to
-- the rest `after`
abbrev pub LeadsAlong : Component → List ACall → Rest → List (ThreadCall × SerialOutcome) → Rest
    → Type 0
LeadsAlong c calls rest [] after = rest ≡ after
LeadsAlong c calls rest ((call, outcome) ∷ path) after =
    (next : Rest) × NextRest c calls rest call outcome next × LeadsAlong c calls next path after

-- the path leads to a rest from which the call of thread t takes more moves than the bound
abbrev pub OverrunsAfter : Component → List ACall → Rest → List (ThreadCall × SerialOutcome) → ℕ
    → ACall → ℕ → Type 0
OverrunsAfter c calls start path t call bound =
    (rest : Rest) × LeadsAlong c calls start path rest × Overruns c bound rest t call

-- The path leads to rests from which the call of thread t has different outcomes; to be stuck is one.
pub record HasTwoOutcomesAfter (c : Component) (calls : List ACall) (start : Rest)
    (path : List (ThreadCall × SerialOutcome)) (t : ℕ) (call : ACall) : Type 0 where
  pub rest : Rest
  pub other : Rest
  pub a : SerialOutcome
  pub b : SerialOutcome
  pub first : LeadsAlong c calls start path rest
  pub second : LeadsAlong c calls start path other
  pub answers : Answers c rest t call a
  pub also : Answers c other t call b
  pub apart : a ≢ b

-- The serial run of some of these calls from the rest `start` offends: after them, the call with
-- number n, made by thread t, takes more moves than the bound, or has two outcomes.
pub record IsOffence (c : Component) (calls : List ACall) (start : Rest) (bound t n : ℕ)
    : Type 0 where
  pub path : List (ThreadCall × SerialOutcome)
  pub call : ACall
  pub called : slice_get calls n ≡ Some call
  pub offends : OverrunsAfter c calls start path t call bound
      ⊎ HasTwoOutcomesAfter c calls start path t call

-- ---- the states of the table

-- some path leads from the rest `start` to each of these positions' rests
abbrev pub IsReached : Component → List ACall → Rest → List Position → Type 0
IsReached c calls start positions =
    (path : List (ThreadCall × SerialOutcome))
    × ((rest : Rest) → HasRest positions rest → LeadsAlong c calls start path rest)

-- so it is for each state of the table
abbrev pub AreReached : Component → List ACall → Rest → Table → Type 0
AreReached c calls start table =
    (n : ℕ) (state : Rests) → slice_get table.states.keys n ≡ Some state
    → IsReached c calls start state.positions.items

-- The new table has right answers, and all that the old one has; and if the old one's states are
-- reached from a rest, so are the new one's.
pub record Learns (c : Component) (calls : List ACall) (old new : Table) : Type 0 where
  pub right : IsTable c calls new
  pub grows : Grows old new
  pub reached : (start : Rest) → AreReached c calls start old → AreReached c calls start new

-- the same, of these serial runs
abbrev pub LearnsBy : SerialRuns → Table → Table → Type 0
LearnsBy runs old new = Learns runs.component.now runs.calls.now old new

-- from each rest from which the table's states are reached, a serial run offends
abbrev pub OffendsFrom : Component → List ACall → ℕ → Table → ThreadCall → Type 0
OffendsFrom c calls bound table call =
    (start : Rest) → AreReached c calls start table
    → IsOffence c calls start bound call.thread call.call

-- why the run is not followed: a serial run offends, or there is no memory
abbrev pub IsFollowFault : Component → List ACall → ℕ → Table → FollowFault → Type 0
IsFollowFault c calls bound table (Offends call) = OffendsFrom c calls bound table call
IsFollowFault c calls bound table Memory = Unit {0}

-- the same, of these serial runs
abbrev pub IsFollowFaultOf : SerialRuns → Table → FollowFault → Type 0
IsFollowFaultOf runs table = IsFollowFault runs.component.now runs.calls.now runs.bound table

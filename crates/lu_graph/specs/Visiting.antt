-- What is known of the nodes that are kept, as a breadth-first search goes through them.
use Rattle.std.specs.Prelude.{◌≡◌, ℕ, ◌+◌, ◌<◌, ◌≤◌, ◌⊎◌, List, [], All, Option, Some, slice_get}
use Rattle.std.specs.Global.{Vec}
use Rattle.lu_component.specs.Component.{Component}
use Rattle.lu_test.specs.declared.schedule.Move.{Move}
use Rattle.lu_test.specs.Matrix.{Matrix}
use Rattle.lu_machine.specs.declared.event.Event.{Event}
use Rattle.lu_machine.specs.Runs.{Leads}
use Rattle.lu_machine.specs.Starts.{FromEachStart}
use Rattle.lu_machine.specs.States.{State, progress}
use Rattle.lu_machine.specs.Steps.{Step}
use Rattle.lu_history.specs.declared.serial.SerialOp.{SerialOp}
use Rattle.lu_history.specs.Histories.{IsWellFormed}
use Rattle.lu_history.specs.Standing.{Agree}
use Rattle.lu_graph.specs.declared.level.Level.{Level}
use Rattle.lu_graph.specs.Alive.{ArePossible}
use Rattle.lu_graph.specs.First.{AllGoFirst, GoesFirst}
use Rattle.lu_graph.specs.Growing.{CanStandThere, IsNextBy, Keeps, state_of}
use Rattle.lu_graph.specs.Kept.{Kept}
use Rattle.lu_graph.specs.Nodes.{AreStatesAlike}

-- the state of what is kept, in runs that start in s
abbrev pub its : State → Kept → State
its s kept = state_of s.component s.matrix kept

-- it stands for the state `end` after the history h, which may have led there
pub record IsFor (s : State) (members : List (Vec SerialOp)) (end : State) (h : List Event)
    (kept : Kept) : Type 0 where
  pub state : AreStatesAlike end (its s kept)
  pub well_formed : IsWellFormed h
  pub agree : Agree (progress end) h
  pub possible : ArePossible members h kept.alive

-- a schedule whose moves all go first leads from s to a state for which it stands
pub record IsReached (s : State) (members : List (Vec SerialOp)) (kept : Kept) : Type 0 where
  pub schedule : List Move
  pub first : AllGoFirst s schedule
  pub end : State
  pub history : List Event
  pub leads : Leads s schedule end history
  pub is : IsFor s members end history kept

abbrev pub IsReachedAndSound : State → List (Vec SerialOp) → Kept → Type 0
IsReachedAndSound s members kept =
    CanStandThere s.component s.matrix kept × IsReached s members kept

-- The start s is kept; to each that is kept a schedule leads from s, and a machine can stand there;
-- and with each before this number, all to which its moves lead that go first are kept.
pub record AreVisited (members : List (Vec SerialOp)) (s : State) (list : List Kept)
    (number : ℕ) : Type 0 where
  pub start : Keeps (IsFor s members s []) list
  pub reached : All (IsReachedAndSound s members) list
  pub closed : (i : ℕ) (kept : Kept) → i < number → slice_get list i ≡ Some kept
      → (m : Move) (next : State) (event : Option Event) → GoesFirst (its s kept) m
      → Step (its s kept) m next event
      → Keeps (IsNextBy members (its s kept) kept.alive next event) list

-- so it is from each start
abbrev pub AreVisitedFrom : List (Vec SerialOp) → Component → Matrix → List Kept → ℕ → Type 0
AreVisitedFrom members c matrix list number =
    FromEachStart c matrix (λ s. AreVisited members s list number)

-- the level of the node of this number: the old one, or, where that has ended, the next, which ends
-- after all that are known
abbrev pub IsLevelAt : Level → ℕ → ℕ → Level → Type 0
IsLevelAt old number known new =
    ((number < old.end) × (new.moves ≡ old.moves) × (new.end ≡ old.end))
    ⊎ ((old.end ≤ number) × (new.moves ≡ old.moves + 1) × (new.end ≡ known))

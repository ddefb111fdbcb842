-- Nodes: states, with the histories of schedules that lead there; and how all schedules end.
use Rattle.std.specs.Prelude.{◌≡◌, ◌↔◌, ℕ, ◌<◌, ◌≤◌, Bool, IfOk, IsTrue, MatchBool, Result, List, [], ◌++◌, length, Option, Some, slice_get}
use Rattle.lu_component.specs.Component.{Component}
use Rattle.lu_test.specs.declared.schedule.Move.{Move}
use Rattle.lu_test.specs.Matrix.{Matrix}
use Rattle.lu_machine.specs.declared.event.Event.{Event}
use Rattle.lu_machine.specs.Ends.{IsEnded}
use Rattle.lu_machine.specs.Runs.{Leads, with_event}
use Rattle.lu_machine.specs.Schedules.{Reaches}
use Rattle.lu_machine.specs.Starts.{FromEachStart}
use Rattle.lu_machine.specs.States.{State}
use Rattle.lu_horizon.specs.Alike as alike
use Rattle.lu_horizon.specs.Alike.{Liveness}
use Rattle.lu_horizon.specs.Dead.{IsDead}
use Rattle.lu_graph.specs.declared.ending.Ending.{Ending}
use Rattle.lu_graph.specs.declared.ending.Ending.TheVariants.{Well, Badly, TooMany}
use Rattle.lu_history.specs.declared.serial.SerialOp.{SerialOp}
use Rattle.lu_graph.specs.Alive.{IsPossible}
use Rattle.lu_graph.specs.First.{AllGoFirst}
use Rattle.lu_witness.specs.Goodness.{IsGoodAt}
use Rattle.lu_witness.specs.Witnesses.{IsMember}

pub record Node : Type 0 where
  pub state : State
  pub history : List Event

abbrev pub node_of : State → List Event → Node
node_of s h = record { state = s; history = h }

-- the history with this event after it, or none
abbrev pub longer : List Event → Option Event → List Event
longer h event = h ++ with_event event []

-- it is one of the list
abbrev pub IsAmong : {A : Type 0} → List A → A → Type 0
IsAmong list x = (i : ℕ) × (slice_get list i ≡ Some x)

-- a register that is not dead
abbrev pub NotDead : Component → Liveness
NotDead c op place r = IsDead c op place r → ⊥

-- two states differ in dead registers alone
abbrev pub AreStatesAlike : State → State → Type 0
AreStatesAlike a b = alike.AreAlike (NotDead a.component) a b

-- Two nodes are alike for a set of serial histories: their states are, and the same histories of
-- the set can still become witnesses of theirs.
abbrev pub AreAlike : (List SerialOp → Type 0) → Node → Node → Type 0
AreAlike Set a b =
    AreStatesAlike a.state b.state
    × ((q : List SerialOp) → Set q → IsPossible q a.history ↔ IsPossible q b.history)

-- each schedule from s, of any length, whose moves all go first leads to a node that is like one of
-- the list
abbrev pub HasAllNodes : (List SerialOp → Type 0) → State → List Node → Type 0
HasAllNodes Set s nodes =
    (u : List Move) (end : State) (h : List Event) → AllGoFirst s u → Leads s u end h
    → (node : Node) × IsAmong nodes node × AreAlike Set node (node_of end h)

-- so it is of a list of no more than this many nodes
abbrev pub HasFewNodes : (List SerialOp → Type 0) → State → ℕ → Type 0
HasFewNodes Set s most = (nodes : List Node) × HasAllNodes Set s nodes × (length nodes ≤ most)

-- as many as are mostly kept
abbrev pub default_nodes : ℕ
default_nodes = 8388608

-- it is good, if it has ended
abbrev pub IsGoodIfEnded : (List SerialOp → Type 0) → State → List Event → Type 0
IsGoodIfEnded Set s h = IsEnded s → IsGoodAt Set s h

-- it has ended, and is not good
abbrev pub IsBadAt : (List SerialOp → Type 0) → State → List Event → Type 0
IsBadAt Set s h = IsEnded s × (IsGoodAt Set s h → ⊥)

-- whether it is good, if it has ended
abbrev pub TellsGood : (List SerialOp → Type 0) → State → List Event → Bool → Type 0
TellsGood Set s h good = MatchBool good (IsGoodIfEnded Set s h) (IsBadAt Set s h)

-- each ended schedule, of any length, is good
abbrev pub EndsWell : (List SerialOp → Type 0) → State → Type 0
EndsWell Set s =
    (u : List Move) → Reaches s u (λ end _. IsEnded end) → Reaches s u (IsGoodAt Set)

-- there are no more than this many nodes, and each ended schedule, of any length, is good
abbrev pub EndsWellOnFewNodes : (List SerialOp → Type 0) → State → ℕ → Type 0
EndsWellOnFewNodes Set s most = HasFewNodes Set s most × EndsWell Set s

-- the schedule u ends, and is not good
abbrev pub EndsBadly : (List SerialOp → Type 0) → State → List Move → Type 0
EndsBadly Set s u = Reaches s u (IsBadAt Set)

-- a schedule of this many moves ends badly, and none of fewer does
pub record IsShortestBad (Set : List SerialOp → Type 0) (s : State) (moves : ℕ) : Type 0 where
  pub schedule : List Move
  pub long : length schedule ≡ moves
  pub bad : EndsBadly Set s schedule
  pub shortest : (v : List Move) → length v < moves → EndsBadly Set s v → ⊥

-- How all schedules end, of any length, searched up to a bound and with this many nodes at most:
-- well; or the shortest that ends badly has this many moves, and the nodes are few where that is
-- more than the bound; or the nodes are too many.
abbrev pub IsEnding : (List SerialOp → Type 0) → ℕ → ℕ → State → Ending → Type 0
IsEnding Set bound most s Well = EndsWellOnFewNodes Set s most
IsEnding Set bound most s (Badly moves) =
    IsShortestBad Set s moves × (bound < moves → HasFewNodes Set s most)
IsEnding Set bound most s TooMany = HasFewNodes Set s most → ⊥

-- so it is of the result, if there is one, for the set of these members
abbrev pub TellsEnding : {E : Type 0} → List (List SerialOp) → ℕ → ℕ → Result Ending E → State
    → Type 0
TellsEnding members bound most result s = IfOk result (IsEnding (IsMember members) bound most s)

-- so it is from each start
abbrev pub TellsEndings : {E : Type 0} → Component → Matrix → List (List SerialOp) → ℕ → ℕ
    → Result Ending E → Type 0
TellsEndings c matrix members bound most result =
    FromEachStart c matrix (TellsEnding members bound most result)

-- the answer, if there is one, is whether this holds
abbrev pub Tells : {E : Type 0} → Type 0 → Result Bool E → Type 0
Tells P result = IfOk result (λ answer. IsTrue answer ↔ P)

-- the answer, if there is one, is whether there are no more than this many nodes
abbrev pub TellsFewNodes : {E : Type 0} → (List SerialOp → Type 0) → ℕ → Result Bool E → State
    → Type 0
TellsFewNodes Set most result s = Tells (HasFewNodes Set s most) result

-- States from which no schedule ends: the livelock of threads that spin.
use Rattle.std.specs.Prelude.{◌≡◌, ℕ, ◌<◌, ◌≤◌, IfOk, Result, List, length, Option}
use Rattle.lu_component.specs.Component.{Component}
use Rattle.lu_test.specs.declared.schedule.Move.{Move}
use Rattle.lu_test.specs.Matrix.{Matrix}
use Rattle.lu_test.specs.Schedule.{AreMoves}
use Rattle.lu_machine.specs.declared.event.Event.{Event}
use Rattle.lu_machine.specs.Ends.{IsEnded}
use Rattle.lu_machine.specs.Order.{IsSmaller}
use Rattle.lu_machine.specs.Schedules.{Reaches}
use Rattle.lu_machine.specs.Starts.{FromEachStart}
use Rattle.lu_machine.specs.States.{State}
use Rattle.lu_machine.specs.Steps.{Step}
use Rattle.lu_graph.specs.declared.lost.FirstLost.{FirstLost}
use Rattle.lu_graph.specs.declared.lost.FirstLost.TheVariants.{First, Never, Unknown}
use Rattle.lu_graph.specs.Nodes.{IsAmong}

-- ---- states, without the histories that led there

-- with each state of the list, each to which a move of it leads
abbrev pub NoMoveLeaves : List State → Type 0
NoMoveLeaves states =
    (s : State) (m : Move) (next : State) (event : Option Event) →
    IsAmong states s → Step s m next event → IsAmong states next

-- the start s, and with each state each to which a move of it leads
pub record HasAllStates (s : State) (states : List State) : Type 0 where
  pub start : IsAmong states s
  pub closed : NoMoveLeaves states

-- a list of no more than this many states has all of them
abbrev pub HasFewStates : State → ℕ → Type 0
HasFewStates s most = (states : List State) × HasAllStates s states × (length states ≤ most)

-- ---- where nothing ends

-- No schedule that goes on from s ends: whatever moves are made, some thread goes on for ever. A
-- stuck state is none, since it has ended.
abbrev pub IsHopeless : State → Type 0
IsHopeless s = (u : List Move) → Reaches s u (λ end _. IsEnded end) → ⊥

-- u leads from s to a hopeless state
abbrev pub LosesHope : State → List Move → Type 0
LosesHope s u = Reaches s u (λ end _. IsHopeless end)

-- no schedule leads to one
abbrev pub NeverLosesHope : State → Type 0
NeverLosesHope s = (u : List Move) → LosesHope s u → ⊥

-- u leads to a hopeless state, none shorter does, and no lesser one of its length; and it has no
-- more moves than a schedule's text
pub record IsFirstLost (s : State) (u : List Move) : Type 0 where
  pub moves : AreMoves u
  pub lost : LosesHope s u
  pub shortest : (v : List Move) → length v < length u → LosesHope s v → ⊥
  pub least : (v : List Move) → length v ≡ length u → IsSmaller v u → LosesHope s v → ⊥

-- What is found of s, where there are no more than this many states: that no schedule leads to a
-- hopeless state, or the first that does. It is unknown only where there are more states, or where
-- schedules lead to one and each has more moves than a text.
abbrev pub FindsFirstLost : ℕ → State → FirstLost → Type 0
FindsFirstLost most s Never = HasFewStates s most × NeverLosesHope s
FindsFirstLost most s (First u) = HasFewStates s most × IsFirstLost s u
FindsFirstLost most s Unknown =
    HasFewStates s most
    → (NeverLosesHope s → ⊥) × ((u : List Move) → IsFirstLost s u → ⊥)

-- so it is of the result, if there is one, from each start
abbrev pub TellsFirstLost : {E : Type 0} → Component → Matrix → ℕ → Result FirstLost E → Type 0
TellsFirstLost c matrix most result =
    FromEachStart c matrix (λ s. IfOk result (FindsFirstLost most s))

-- ---- a law

-- no move leaves the list, and none of its states has ended
pub record GoOnForEver (states : List State) : Type 0 where
  pub closed : NoMoveLeaves states
  pub never : (s : State) → IsAmong states s → IsEnded s → ⊥

-- each state of such a list is hopeless
abbrev pub ForEverIsHopeless : Type 0
ForEverIsHopeless =
    (states : List State) (s : State) → GoOnForEver states → IsAmong states s → IsHopeless s

-- All states of a component on a matrix, where these are few.
use Rattle.std.specs.Prelude.{◌≡◌, ◌↔◌, ℕ, ◌<◌, ◌≤◌, Bool, IfOk, Result, List, [], ◌∷◌, ◌++◌, length, Option, Some, None, slice_get}
use Rattle.lu_component.specs.Component.{Component}
use Rattle.lu_test.specs.declared.schedule.Move.{Move}
use Rattle.lu_test.specs.Matrix.{Matrix}
use Rattle.lu_test.specs.Schedule.{AreMoves}
use Rattle.lu_machine.specs.declared.position.Position.{Position}
use Rattle.lu_machine.specs.Ends.{IsEnded}
use Rattle.lu_machine.specs.Positions.{at_position}
use Rattle.lu_machine.specs.Starts.{FromEachStart, first_move}
use Rattle.lu_machine.specs.States.{State}
use Rattle.lu_graph.specs.declared.discovering.Discovery.{Discovery}
use Rattle.lu_graph.specs.declared.exploring_states.StateGraph.{StateGraph}
use Rattle.lu_graph.specs.Discovering.{IsSearched}
use Rattle.lu_graph.specs.Hopeless.{HasFewStates}
use Rattle.lu_graph.specs.Marking.{IsMarked}

-- this many marks: of the first positions those where a run from s has ended
pub record AreEnded (s : State) (positions : List Position) (number : ℕ)
    (ended : List Bool) : Type 0 where
  pub size : length ended ≡ number
  pub are : (i : ℕ) (position : Position) → i < number → slice_get positions i ≡ Some position
      → IsMarked ended i ↔ IsEnded (at_position s position)

-- the graph of all states of runs from s
pub record IsStateGraph (s : State) (graph : StateGraph) : Type 0 where
  pub number : ℕ
  pub all : length graph.found.positions.keys ≤ number
  pub searched : IsSearched s graph.found number first_move
  pub ended : AreEnded s graph.found.positions.keys (length graph.found.positions.keys)
      graph.ended.items

-- the graph, where there are no more than this many states
abbrev pub IsExplored : ℕ → State → Option StateGraph → Type 0
IsExplored most s None = HasFewStates s most → ⊥
IsExplored most s (Some graph) = HasFewStates s most × IsStateGraph s graph

-- so it is of the result, if there is one, from each start
abbrev pub TellsExplored : {E : Type 0} → Component → Matrix → ℕ → Result (Option StateGraph) E
    → Type 0
TellsExplored c matrix most result =
    FromEachStart c matrix (λ s. IfOk result (IsExplored most s))

-- ---- the schedules by which states were discovered

-- the first is empty, and each other one goes on from an earlier one by one move
pub record ArePaths (ways : List Discovery) (paths : List (List Move)) : Type 0 where
  pub start : slice_get paths 0 ≡ Some []
  pub each : (i : ℕ) (way : Discovery) → 0 < i → slice_get ways i ≡ Some way
      → (u : List Move) × (slice_get paths way.from ≡ Some u)
      × (slice_get paths i ≡ Some (u ++ way.made ∷ []))

-- each but the first was discovered from an earlier state
abbrev pub AreInOrder : List Discovery → Type 0
AreInOrder ways =
    (i : ℕ) (way : Discovery) → 0 < i → slice_get ways i ≡ Some way → way.from < i

-- the path to the state of this number; none where it has more than 4,112 moves
abbrev pub IsPathTo : List (List Move) → ℕ → Option (List Move) → Type 0
IsPathTo paths number None = (u : List Move) × (slice_get paths number ≡ Some u) × (4112 < length u)
IsPathTo paths number (Some u) = AreMoves u × (slice_get paths number ≡ Some u)

-- so it is of the result, if there is one, whatever the paths are
abbrev pub FindsPath : {E : Type 0} → List Discovery → ℕ → Result (Option (List Move)) E → Type 0
FindsPath ways number result =
    (paths : List (List Move)) → ArePaths ways paths → IfOk result (IsPathTo paths number)

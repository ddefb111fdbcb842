-- Livelocks: whether a schedule can still come to where all open operations are blocked.
use Rattle.std.specs.Prelude.{◌≡◌, ℕ, Bool, List, [], ◌∷◌, Option}
use Rattle.lu_component.specs.Component.{Component}
use Rattle.lu_test.specs.declared.schedule.Move.{Move}
use Rattle.lu_test.specs.Matrix.{Matrix}
use Rattle.lu_machine.specs.declared.event.Event.{Event}
use Rattle.lu_machine.specs.Runs.{Leads}
use Rattle.lu_machine.specs.Starts.{IsStart}
use Rattle.lu_machine.specs.States.{State}
use Rattle.lu_machine.specs.Steps.{Step, picks_of}
use Rattle.lu_graph.specs.First.{GoesFirst}
use Rattle.lu_graph.specs.Guards.{TellsGuarded}
use Rattle.lu_late.specs.Steps.{IsIdle, LeadsBySteps}

-- each open operation is blocked
abbrev pub IsAtRest : State → Type 0
IsAtRest s = (t : ℕ) → (IsIdle s t → ⊥) → picks_of s t ≡ 0

-- every move is a step of an open operation: no call is made
abbrev pub AreOpenSteps : State → List Move → Type 0
AreOpenSteps s [] = Unit {0}
AreOpenSteps s (m ∷ u) =
    (IsIdle s m.thread → ⊥) × GoesFirst s m
    × ((next : State) (event : Option Event) → Step s m next event → AreOpenSteps next u)

-- steps of open operations alone lead from s to where all of these are blocked
pub record RestsBySteps (s : State) : Type 0 where
  pub moves : List Move
  pub rest : State
  pub history : List Event
  pub leads : Leads s moves rest history
  pub steps : AreOpenSteps s moves
  pub at_rest : IsAtRest rest

-- a schedule leads from s to where all open operations are blocked
pub record MayRest (s : State) : Type 0 where
  pub moves : List Move
  pub rest : State
  pub history : List Event
  pub leads : Leads s moves rest history
  pub at_rest : IsAtRest rest

-- If from each state that is reached by steps, steps of open operations alone lead to where all of
-- these are blocked, then a schedule leads there from each state.
abbrev pub StepsTellRests : Type 0
StepsTellRests =
    (c : Component) (matrix : Matrix) (guarded : List Bool) (s : State) → TellsGuarded c guarded
    → IsStart c matrix s
    → ((n : ℕ) (u : List Move) (rest : State) (h : List Event) → LeadsBySteps n s u rest h
    → RestsBySteps rest)
    → (u : List Move) (end : State) (h : List Event) → Leads s u end h → MayRest end

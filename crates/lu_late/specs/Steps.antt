-- The steps of a search that makes each call as late as it can.
use Rattle.std.specs.Prelude.{◌≡◌, ℕ, zero, suc, ◌+◌, Bool, List, [], ◌∷◌, ◌++◌, length, Option, Some, slice_get}
use Rattle.lu_component.specs.Component.{Component}
use Rattle.lu_test.specs.declared.schedule.Move.{Move}
use Rattle.lu_test.specs.Matrix.{Matrix}
use Rattle.lu_machine.specs.declared.event.Event.{Event}
use Rattle.lu_machine.specs.Changes.{idle}
use Rattle.lu_machine.specs.Ends.{IsEnded}
use Rattle.lu_machine.specs.Runs.{Leads}
use Rattle.lu_machine.specs.Starts.{IsStart}
use Rattle.lu_machine.specs.States.{State}
use Rattle.lu_machine.specs.Steps.{Step}
use Rattle.lu_tree.specs.Reordered.{AreReordered}
use Rattle.lu_graph.specs.First.{GoesFirst}
use Rattle.lu_graph.specs.Guards.{TellsGuarded}

-- thread t has no open operation
abbrev pub IsIdle : State → ℕ → Type 0
IsIdle s t = (k : ℕ) × (slice_get s.threads t ≡ Some (idle k))

-- These moves are one step from s: the move of an open operation; or the call of an idle thread,
-- with the first move of its operation. Where threads are at left movers (Lipton, 1975), the first of
-- these threads moves, so that no call is made.
abbrev pub IsOneStep : State → List Move → Type 0
IsOneStep s [] = ⊥
IsOneStep s (m ∷ []) = (IsIdle s m.thread → ⊥) × GoesFirst s m
IsOneStep s (m ∷ k ∷ []) = IsIdle s m.thread × GoesFirst s m × (k.thread ≡ m.thread)
IsOneStep s (m ∷ k ∷ l ∷ u) = ⊥

-- n steps lead from s to the state `end`, by these moves and with this history
abbrev pub LeadsBySteps : ℕ → State → List Move → State → List Event → Type 0
LeadsBySteps zero s u end history = (u ≡ []) × (end ≡ s) × (history ≡ [])
LeadsBySteps (suc n) s u end history =
    (step : List Move) × (rest : List Move) × (next : State) × (first : List Event)
    × (more : List Event) × IsOneStep s step × Leads s step next first
    × LeadsBySteps n next rest end more × (u ≡ step ++ rest) × (history ≡ first ++ more)

-- every move is the call of an idle thread
abbrev pub AreCalls : State → List Move → Type 0
AreCalls s [] = Unit {0}
AreCalls s (m ∷ u) =
    IsIdle s m.thread
    × ((next : State) (event : Option Event) → Step s m next event → AreCalls next u)

-- Steps and then calls lead from s to the state `end`, by this many moves. Their history is this one
-- in another order, with the same precedence or more.
pub record LeadsInSteps (s : State) (moves : ℕ) (end : State) (history : List Event) : Type 0 where
  pub steps : ℕ
  pub schedule : List Move
  pub rest : State
  pub before : List Event
  pub taken : LeadsBySteps steps s schedule rest before
  pub calls : List Move
  pub are_calls : AreCalls rest calls
  pub after : List Event
  pub leads : Leads rest calls end after
  pub long : length schedule + length calls ≡ moves
  pub reordered : AreReordered (before ++ after) history

-- From a start, each schedule that has ended can be replaced by one of steps and last calls, which is
-- as long and leads to the same end.
abbrev pub StepsTellAll : Type 0
StepsTellAll =
    (c : Component) (matrix : Matrix) (guarded : List Bool) (s : State) → TellsGuarded c guarded
    → IsStart c matrix s → (u : List Move) (end : State) (history : List Event)
    → Leads s u end history → IsEnded end → LeadsInSteps s (length u) end history

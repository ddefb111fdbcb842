-- Nodes as they are stored.
use Rattle.std.specs.Prelude.{◌≡◌, ◌⊎◌, ℕ, List, [], ◌∷◌, ◌++◌, Option, Some, None, slice_get}
use Rattle.std.specs.Option.{option_and_then}
use Rattle.lu_component.specs.Component.{Component}
use Rattle.lu_test.specs.Matrix.{Matrix}
use Rattle.lu_machine.specs.declared.thread.Thread.{Thread}
use Rattle.lu_machine.specs.Positions.{CanStand, standing_so}
use Rattle.lu_machine.specs.States.{State}
use Rattle.lu_linearization.specs.declared.configuration.Configuration.{Configuration as Shown}
use Rattle.lu_always.specs.declared.stored.Arrival.{Arrival}
use Rattle.lu_always.specs.Nodes.{IsWithin}

-- the value of each cell, the owner of each lock, and where each thread is
pub record StoredPosition : Type 0 where
  pub cells : List ℕ
  pub locks : List (Option ℕ)
  pub threads : List Thread

-- that of a state
abbrev pub position_in : State → StoredPosition
position_in s = record { cells = s.cells; locks = s.locks; threads = s.threads }

-- s at this position
abbrev pub at_stored : State → StoredPosition → State
at_stored s p = standing_so s p.cells p.locks p.threads

-- a machine of the component and the matrix can stand there
abbrev pub CanStandAtStored : Component → Matrix → StoredPosition → Type 0
CanStandAtStored c matrix p = CanStand c matrix p.cells p.locks p.threads

-- so can one at the position of s
abbrev pub StandsWhereItCan : State → Type 0
StandsWhereItCan s = CanStandAtStored s.component s.matrix (position_in s)

-- a node, and how it was first reached; None for the first node
pub record StoredNode : Type 0 where
  pub position : StoredPosition
  pub monitor : List Shown
  pub arrival : Option Arrival

-- the arrival of the node at this index; none for the first node
abbrev pub arrival_at : List StoredNode → ℕ → Option Arrival
arrival_at list index = option_and_then (λ (stored : StoredNode). stored.arrival) (slice_get list index)

-- this holds of the node that is stored at this index
abbrev pub HoldsOfStored : List StoredNode → ℕ → (StoredNode → Type 0) → Type 0
HoldsOfStored all index P = (stored : StoredNode) → slice_get all index ≡ Some stored → P stored

-- a machine of the component and the matrix of s can stand at the node that is stored at this index
abbrev pub CanStandAtNode : List StoredNode → ℕ → State → Type 0
CanStandAtNode all index s =
    HoldsOfStored all index (λ stored. CanStandAtStored s.component s.matrix stored.position)

-- the node that is stored at this index has this monitor
abbrev pub HasMonitorAt : List StoredNode → ℕ → List Shown → Type 0
HasMonitorAt all index monitor =
    (stored : StoredNode) × (slice_get all index ≡ Some stored) × (stored.monitor ≡ monitor)

-- the node was reached by the arrival's move alone, from one with this monitor; or a call was made first
abbrev pub ComesFromMonitor : List StoredNode → List Shown → Arrival → Type 0
ComesFromMonitor all monitor a = a.call ≡ None → HasMonitorAt all a.parent monitor

-- the machine was put at the position of the node that is stored at this index
abbrev pub StandsAt : List StoredNode → ℕ → State → State → Type 0
StandsAt all index old new =
    (stored : StoredNode) × (slice_get all index ≡ Some stored)
    × (new ≡ at_stored old stored.position)

-- the node of this state and this monitor, with this arrival
abbrev pub stored_for : State → List Shown → Option Arrival → StoredNode
stored_for s monitor arrival = record { position = position_in s; monitor = monitor; arrival = arrival }

-- What is stored at the index has this state, and only configurations of this monitor. Only the node of
-- this state and this monitor was added, with this arrival, or nothing.
pub record Stores (s : State) (monitor : List Shown) (arrival : Option Arrival)
    (old new : List StoredNode) (index : ℕ) : Type 0 where
  pub stored : StoredNode
  pub at : slice_get new index ≡ Some stored
  pub position : stored.position ≡ position_in s
  pub within : IsWithin stored.monitor monitor
  pub only : (new ≡ old) ⊎ (new ≡ old ++ stored_for s monitor arrival ∷ [])

-- the same, with the monitor of the node that is stored at this index
abbrev pub StoresBeside : State → ℕ → Option Arrival → List StoredNode → List StoredNode → ℕ → Type 0
StoresBeside s beside arrival old new index =
    (monitor : List Shown) → HasMonitorAt old beside monitor
    → Stores s monitor arrival old new index

-- How the graph grows.
use Rattle.std.specs.Prelude.{◌≡◌, ◌≢◌, ◌↔◌, ◌⊎◌, ℕ, ◌+◌, ◌<◌, Option, Some, None, Bool, true, false, List, [], ◌++◌, length, slice_index_or}
use Rattle.lu_component.specs.Component.{Component}
use Rattle.lu_test.specs.Matrix.{Matrix}
use Rattle.lu_test.specs.declared.matrix.TheConstants.{MOST_CALLS}
use Rattle.lu_machine.specs.declared.position.Position.{Position}
use Rattle.lu_machine.specs.Starts.{IsStart}
use Rattle.lu_machine.specs.States.{State}
use Rattle.lu_history.specs.declared.serial.SerialOp.{SerialOp}
use Rattle.lu_history.specs.declared.serial.SerialOutcome.{SerialOutcome}
use Rattle.lu_history.specs.declared.serial.SerialOutcome.TheVariants.{Ret, Trap, Stuck}
use Rattle.lu_serial.specs.Offences.{NoOffence}
use Rattle.lu_serial_graph.specs.declared.exploring.Rests.{Rests}
use Rattle.lu_serial_graph.specs.declared.exploring.Search.{Search}
use Rattle.lu_serial_graph.specs.Playing.{IsAmong}
use Rattle.lu_serial_graph.specs.Answers.{HasRest, RestsStand}
use Rattle.lu_serial_graph.specs.Continuing.{LeadsTo, AreContinuations}

-- the outcome of a call that is blocked
abbrev pub is_stuck : SerialOutcome → Bool
is_stuck (Ret n) = false
is_stuck Trap = false
is_stuck Stuck = true

-- the same states are among the rests
abbrev pub AreSameRests : List Position → List Position → Type 0
AreSameRests rests others =
    (c : Component) (matrix : Matrix) (s : State) →
    HasRest c matrix rests s ↔ HasRest c matrix others s

-- At this place of the table are the continuations of all prefixes that lead to these rests, or that
-- end stuck.
pub record IsKnown (c : Component) (matrix : Matrix) (bound : ℕ)
    (table : List (List (List SerialOp))) (stuck : Bool) (rests : List Position)
    (place : ℕ) : Type 0 where
  pub there : place < length table
  pub full : slice_index_or table place [] ≢ []
  pub tells : (s : State) (q : List SerialOp) → IsStart c matrix s
      → LeadsTo c matrix s q stuck rests → AreContinuations s bound q (slice_index_or table place [])

-- an entry of the map: rests, and the place of their node
abbrev pub Entry : Type 0
Entry = Rests × ℕ

-- the same holds of each entry of the map
abbrev pub AllKnown : {A : Type 0} → Search A → Type 0
AllKnown search =
    (entry : Entry) → IsAmong entry search.known.entries
    → IsKnown search.machine.component search.machine.matrix search.bound search.table false
    entry.0.positions.items entry.1

-- Some prefix leads to these rests, or ends stuck; with `left` more entries it has more than any
-- matrix has calls.
abbrev pub IsReached : Component → Matrix → Bool → List Position → ℕ → Type 0
IsReached c matrix stuck rests left =
    (s : State) × (q : List SerialOp) × IsStart c matrix s × LeadsTo c matrix s q stuck rests
    × (MOST_CALLS < length q + left)

-- a search reaches them so, and its machine can stand at each of them
abbrev pub Reaches : {A : Type 0} → Search A → Bool → List Position → ℕ → Type 0
Reaches search stuck rests left =
    IsReached search.machine.component search.machine.matrix stuck rests left

abbrev pub CanStandAtEach : {A : Type 0} → Search A → List Position → Type 0
CanStandAtEach search rests = RestsStand search.machine.component search.machine.matrix rests

-- some serial run offends
abbrev pub Offends : Component → Matrix → ℕ → Type 0
Offends c matrix bound = (s : State) → IsStart c matrix s → NoOffence s bound → ⊥

-- the map has this place for these rests
abbrev pub IsKept : List Entry → Rests → ℕ → Type 0
IsKept entries rests place =
    (entry : Entry) × IsAmong entry entries × (entry.1 ≡ place)
    × AreSameRests entry.0.positions.items rests.positions.items

-- each new entry of the map is an old one, or has these rests and this place
abbrev pub Keeps : List Entry → Rests → ℕ → List Entry → Type 0
Keeps old rests place new =
    (entry : Entry) → IsAmong entry new
    → IsAmong entry old
    ⊎ ((entry.1 ≡ place) × AreSameRests rests.positions.items entry.0.positions.items)

-- The search has gone on, and at this place are the continuations of these rests.
pub record Explores {A : Type 0} (old : Search A) (stuck : Bool) (rests : List Position)
    (new : Search A) (place : ℕ) : Type 0 where
  pub component : new.machine.component ≡ old.machine.component
  pub matrix : new.machine.matrix ≡ old.machine.matrix
  pub bound : new.bound ≡ old.bound
  pub grows : (more : List (List (List SerialOp))) × (new.table ≡ old.table ++ more)
  pub known : AllKnown new
  pub here : IsKnown old.machine.component old.machine.matrix old.bound new.table stuck rests place

-- it has, or some serial run offends
abbrev pub ExploresOrOffends : {A : Type 0} → Search A → Bool → List Position → Search A → Option ℕ
    → Type 0
ExploresOrOffends old stuck rests new (Some place) = Explores old stuck rests new place
ExploresOrOffends old stuck rests new None =
    Offends old.machine.component old.machine.matrix old.bound

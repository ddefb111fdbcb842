-- How an operation ends that one thread runs alone.
use Rattle.std.specs.Prelude.{◌≡◌, ◌⊎◌, ℕ, ◌<◌, List, [], ◌∷◌, length, Option, Some, None}
use Rattle.lu_component.specs.Component.{Component}
use Rattle.lu_test.specs.declared.schedule.Move.{Move}
use Rattle.lu_test.specs.Matrix.{Matrix}
use Rattle.lu_machine.specs.declared.event.Event.{Event}
use Rattle.lu_machine.specs.declared.event.Event.TheVariants.{Call, Return}
use Rattle.lu_machine.specs.declared.position.Position.{Position}
use Rattle.lu_machine.specs.Positions.{CanStandAt}
use Rattle.lu_machine.specs.Runs.{Leads}
use Rattle.lu_machine.specs.States.{State}
use Rattle.lu_machine.specs.Steps.{Step, picks_of}
use Rattle.lu_history.specs.declared.serial.SerialOp.{SerialOp}
use Rattle.lu_history.specs.declared.serial.SerialOutcome.{SerialOutcome}
use Rattle.lu_history.specs.declared.serial.SerialOutcome.TheVariants.{Stuck}
use Rattle.lu_history.specs.Parts.{as_serial}
use Rattle.lu_serial.specs.Serial.{HasOpen, entries_of}
use Rattle.lu_serial.specs.Whole.{IsQuiet}
use Rattle.lu_client.specs.Alone.{AllBy}
use Rattle.lu_serial_graph.specs.declared.alone.Ending.{Ending}

-- x is in the list
abbrev pub IsAmong : {A : Type 0} → A → List A → Type 0
IsAmong x [] = ⊥
IsAmong x (y ∷ list) = (x ≡ y) ⊎ IsAmong x list

-- the state of a machine of the component and the matrix at this position
abbrev pub state_at : Component → Matrix → Position → State
state_at c matrix p = record {
  component = c;
  matrix = matrix;
  cells = p.cells.items;
  locks = p.locks.items;
  threads = p.threads.items;
}

-- the operation of thread t, with this outcome
abbrev pub op_of : ℕ → SerialOutcome → SerialOp
op_of t outcome = record { thread = t; outcome = outcome }

-- Thread t's operation has returned with this outcome, and no operation is open; or it is blocked.
abbrev pub EndsSo : ℕ → State → List Event → SerialOutcome → Type 0
EndsSo t end history outcome =
    (IsQuiet end × (entries_of history ≡ op_of t outcome ∷ []))
    ⊎ ((outcome ≡ Stuck) × HasOpen end t × (picks_of end t ≡ 0) × (entries_of history ≡ []))

-- By moves of thread t alone, its operation ends with this outcome in the state `end`.
pub record Comes (s : State) (t : ℕ) (outcome : SerialOutcome) (end : State) : Type 0 where
  pub moves : List Move
  pub by : AllBy t moves
  pub history : List Event
  pub leads : Leads s moves end history
  pub ends : EndsSo t end history outcome

-- After n moves of thread t alone, its operation is still open and enabled.
pub record Lasts (s : State) (t n : ℕ) : Type 0 where
  pub moves : List Move
  pub by : AllBy t moves
  pub long : length moves ≡ n
  pub end : State
  pub history : List Event
  pub leads : Leads s moves end history
  pub still : HasOpen end t
  pub none : entries_of history ≡ []
  pub enabled : 0 < picks_of end t

-- no operation is open except possibly that of thread t
abbrev pub OpensOnly : State → ℕ → Type 0
OpensOnly s t = (x : ℕ) → HasOpen s x → x ≡ t

-- the outcome of an operation that returns with this event
abbrev pub returned_by : Option Event → Option SerialOutcome
returned_by None = None
returned_by (Some (Call t k)) = None
returned_by (Some (Return t k outcome)) = Some (as_serial outcome)

-- how the operation ends: where it has returned in s, with that outcome there
abbrev pub Gives : State → ℕ → Option SerialOutcome → SerialOutcome → State → Type 0
Gives s t None outcome end = Comes s t outcome end
Gives s t (Some returned) outcome end = (outcome ≡ returned) × (end ≡ s)

-- n moves later it is still open and enabled
abbrev pub StillLasts : State → ℕ → Option SerialOutcome → ℕ → Type 0
StillLasts s t None n = Lasts s t n
StillLasts s t (Some returned) n = ⊥

-- the operation has returned, or is open, or can be called with at least one move
abbrev pub MayGoOn : State → ℕ → Option SerialOutcome → ℕ → Type 0
MayGoOn s t None n = OpensOnly s t × (HasOpen s t ⊎ ((0 < picks_of s t) × (0 < n)))
MayGoOn s t (Some returned) n = Unit {0}

-- one of the endings has this outcome in this state
abbrev pub HasEnding : Component → Matrix → List Ending → SerialOutcome → State → Type 0
HasEnding c matrix endings outcome end =
    (p : Position) × IsAmong (record { outcome = outcome; position = p }) endings
    × (state_at c matrix p ≡ end)

-- a machine can stand at each of their positions
abbrev pub AllStand : Component → Matrix → List Ending → Type 0
AllStand c matrix endings =
    (ending : Ending) → IsAmong ending endings → CanStandAt c matrix ending.position

-- The new endings are the old ones and those to which `Leading` leads.
pub record Grows (c : Component) (matrix : Matrix) (old new : List Ending)
    (Leading : SerialOutcome → State → Type 0) : Type 0 where
  pub stay : (o : SerialOutcome) (end : State) → HasEnding c matrix old o end
      → HasEnding c matrix new o end
  pub all : (o : SerialOutcome) (end : State) → Leading o end → HasEnding c matrix new o end
  pub each : (o : SerialOutcome) (end : State) → HasEnding c matrix new o end
      → HasEnding c matrix old o end ⊎ Leading o end
  pub stand : AllStand c matrix old → AllStand c matrix new

-- The operation ends within n moves, and its endings are added.
pub record AddsEndings (s : State) (t : ℕ) (returned : Option SerialOutcome) (n : ℕ)
    (old new : List Ending) : Type 0 where
  pub short : StillLasts s t returned n → ⊥
  pub some : (o : SerialOutcome) × (end : State) × Gives s t returned o end
  pub grows : Grows s.component s.matrix old new (Gives s t returned)

-- After a first move of thread t with a pick below k, the operation ends so.
pub record ComesBelow (s : State) (t k : ℕ) (outcome : SerialOutcome) (end : State) : Type 0 where
  pub pick : ℕ
  pub below : pick < k
  pub next : State
  pub event : Option Event
  pub step : Step s (record { thread = t; pick = pick }) next event
  pub gives : Gives next t (returned_by event) outcome end

-- After each such move it ends within n moves, and its endings are added.
pub record AddsBelow (s : State) (t k n : ℕ) (old new : List Ending) : Type 0 where
  pub short : (pick : ℕ) (next : State) (event : Option Event) → pick < k
      → Step s (record { thread = t; pick = pick }) next event
      → StillLasts next t (returned_by event) n → ⊥
  pub some : 0 < k → (o : SerialOutcome) × (end : State) × ComesBelow s t k o end
  pub grows : Grows s.component s.matrix old new (ComesBelow s t k)

-- Nodes as rows of numbers: of each part its number in a table that has each different one once.
use Rattle.std.specs.Prelude.{◌≡◌, ℕ, ◌<◌, Bool, List, length, nat_eq, All, IfSome, Option, Some, None, slice_get}
use Rattle.std.specs.List.{slice_index}
use Rattle.std.specs.Option.{option_eq}
use Rattle.lu_component.specs.Component.{Component}
use Rattle.lu_test.specs.Matrix.{Matrix, thread_count}
use Rattle.lu_machine.specs.contracts.thread.ThreadPartialEq as thread
use Rattle.lu_machine.specs.declared.thread.Thread.{Thread}
use Rattle.lu_machine.specs.Layout.{IsStanding, StandsIn}
use Rattle.lu_machine.specs.Positions.{CanStand}
use Rattle.lu_machine.specs.States.{State, first_cell}
use Rattle.lu_horizon.specs.Dead.{DeadTable, IsDeadTable, TellsDead}
use Rattle.lu_horizon.specs.Live.{IsLiveThread}
use Rattle.lu_graph.specs.declared.row.Parts.{Parts}
use Rattle.lu_graph.specs.declared.row.Row.{Row}
use Rattle.lu_graph.specs.Discovering.{Extends}
use Rattle.lu_graph.specs.Growing.{CanStandThere, state_of}
use Rattle.lu_graph.specs.Kept.{Kept}
use Rattle.lu_graph.specs.Numbered.{IsNumber, is_list, with_number}
use Rattle.lu_graph.specs.Possibilities.{IsNumberOf}

-- ---- threads

-- whether these are the same
abbrev pub same_standing : Thread → Thread → Bool
same_standing = (thread.TheImpl.ghosts).eq

-- the number of where a thread stands, and 0 where it is not there
abbrev pub IsNumberOrNone : List Thread → Option Thread → ℕ → Type 0
IsNumberOrNone table None n = n ≡ 0
IsNumberOrNone table (Some thread) n = IsNumber (same_standing thread) table n

-- eight numbers: of each thread that of where it stands, and 0 for those that are not there
pub record AreNumbers (threads table : List Thread) (numbers : List ℕ) : Type 0 where
  pub eight : length numbers ≡ 8
  pub each : (t : ℕ) → IsNumberOrNone table (slice_get threads t) (slice_index numbers t)

-- these are the threads, each with 0 in its dead registers
pub record AreLive (dead : DeadTable) (threads live : List Thread) : Type 0 where
  pub many : length live ≡ length threads
  pub each : (t : ℕ) (thread one : Thread) → slice_get threads t ≡ Some thread
      → slice_get live t ≡ Some one → IsLiveThread dead thread one

-- so these are the threads of s, which can stand so, and have these numbers by the table as it has
-- become
pub record NumbersThreads (dead : DeadTable) (s : State) (old new : List Thread)
    (numbers : List ℕ) : Type 0 where
  pub live : List Thread
  pub are : AreLive dead s.threads live
  pub stand : All IsStanding live
  pub in_code : All (StandsIn s.component) live
  pub have : AreNumbers live new numbers
  pub grows : Extends old new

-- the threads with these numbers, and others for those that are not there
pub record HaveNumbers (table : List Thread) (numbers : List ℕ) (threads : List Thread)
    : Type 0 where
  pub eight : length threads ≡ 8
  pub each : (t : ℕ) → t < 8 → IfSome (with_number table (slice_index numbers t))
      (λ thread. slice_get threads t ≡ Some thread)

-- ---- rows

-- it has as many cells, locks and threads as the component and the matrix declare
pub record IsSized (s : State) : Type 0 where
  pub cells : length s.cells ≡ first_cell s.component.arrays (length s.component.arrays)
  pub locks : length s.locks ≡ length s.component.locks
  pub threads : length s.threads ≡ thread_count s.matrix

-- the table of dead registers is sound for the component, and says of each whether it is dead
pub record KnowsDead (c : Component) (dead : DeadTable) : Type 0 where
  pub sound : IsDeadTable c dead
  pub tells : TellsDead c dead

-- more parts may have come after the old ones
pub record Grow (old new : Parts) : Type 0 where
  pub dead : new.dead ≡ old.dead
  pub cells : Extends old.cells.keys new.cells.keys
  pub locks : Extends old.locks.keys new.locks.keys
  pub threads : Extends old.threads.keys new.threads.keys
  pub alive : Extends old.alive.lists.keys new.alive.lists.keys

-- the row has the numbers of these cells, locks and threads
pub record IsRow (parts : Parts) (values : List ℕ) (owners : List (Option ℕ))
    (standing : List Thread) (row : Row) : Type 0 where
  pub cells : IsNumber (is_list nat_eq values) parts.cells.keys row.cells
  pub locks : IsNumber (is_list (option_eq nat_eq) owners) parts.locks.keys row.locks
  pub threads : AreNumbers standing parts.threads.keys row.threads

-- the row of the state s with 0 in the dead registers of its threads, and with this number of what
-- is possible
pub record IsRowAt (s : State) (possible : ℕ) (old new : Parts) (row : Row) : Type 0 where
  pub live : List Thread
  pub are : AreLive new.dead s.threads live
  pub can : CanStand s.component s.matrix s.cells s.locks live
  pub is : IsRow new s.cells s.locks live row
  pub alive : row.alive ≡ possible
  pub grows : Grow old new
  pub same : new.alive ≡ old.alive

-- the row of the state s by these parts, to which none comes, with this number of what is possible
abbrev pub IsRowAmong : Parts → State → ℕ → Row → Type 0
IsRowAmong parts s possible row = IsRowAt s possible parts parts row

-- the row of what is kept, with 0 in the dead registers of its threads
pub record IsRowOf (parts : Parts) (kept : Kept) (row : Row) : Type 0 where
  pub is : IsRow parts kept.cells kept.locks kept.threads row
  pub live : AreLive parts.dead kept.threads kept.threads
  pub alive : IsNumberOf parts.alive kept.alive row.alive

-- it is the row of a node at which a machine of the component and the matrix can stand
abbrev pub CanStandAtRow : Component → Matrix → Parts → Row → Type 0
CanStandAtRow c matrix parts row =
    (kept : Kept) × IsRowOf parts kept row × CanStandThere c matrix kept

-- the machine stands at the node of the row
abbrev pub StandsAtRow : Parts → Row → State → State → Type 0
StandsAtRow parts row old new =
    (kept : Kept) → IsRowOf parts kept row → new ≡ state_of old.component old.matrix kept

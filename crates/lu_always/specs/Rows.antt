-- Nodes as rows of numbers.
use Rattle.std.specs.Prelude.{◌≡◌, ◌⊎◌, ℕ, ◌<◌, List, [], ◌∷◌, ◌++◌, length, map, Option, Some, None, slice_get}
use Rattle.std.specs.Global.{Vec}
use Rattle.std.specs.List.{slice_index}
use Rattle.std.specs.Option.{option_map_or}
use Rattle.lu_machine.specs.declared.thread.Thread.{Thread}
use Rattle.lu_machine.specs.States.{State}
use Rattle.lu_linearization.specs.declared.configuration.Configuration.{Configuration as Shown}
use Rattle.lu_always.specs.declared.rows.Parts.{Parts}
use Rattle.lu_always.specs.declared.rows.Row.{Row}
use Rattle.lu_always.specs.Numbered.{Extends, with_number}
use Rattle.lu_always.specs.declared.stored.Arrival.{Arrival}
use Rattle.lu_always.specs.Nodes.{IsWithin}
use Rattle.lu_always.specs.Stored.{CanStandAtStored, StoredNode, StoredPosition, position_in}

-- ---- what rows stand for

-- the list with this number
abbrev pub list_at : {A : Type 0} → List (Vec A) → ℕ → List A
list_at table n = option_map_or (λ v. v.items) (with_number table n) []

-- where the threads are, up to the first whose number is none
abbrev pub threads_at : List Thread → List ℕ → List Thread
threads_at table [] = []
threads_at table (n ∷ ns) = option_map_or (λ a. a ∷ threads_at table ns) (with_number table n) []

abbrev pub position_at : Parts → Row → StoredPosition
position_at parts row = record {
  cells = list_at parts.cells.keys row.cells;
  locks = list_at parts.locks.keys row.locks;
  threads = threads_at parts.threads.keys row.threads;
}

-- a machine of the component and the matrix of s can stand there
abbrev pub CanStandAtRow : Parts → Row → State → Type 0
CanStandAtRow parts row s = CanStandAtStored s.component s.matrix (position_at parts row)

-- the monitor with this number; an empty one, if there is none
abbrev pub numbered : List (List Shown) → ℕ → List Shown
numbered monitors n = option_map_or (λ m. m) (slice_get monitors n) []

abbrev pub monitor_at : Parts → ℕ → List Shown
monitor_at parts n = numbered parts.monitors n

-- ---- what has which number

-- this list has the number
abbrev pub IsListOf : {A : Type 0} → List (Vec A) → List A → ℕ → Type 0
IsListOf {A} table xs n = (v : Vec A) × (with_number table n ≡ Some v) × (v.items ≡ xs)

-- this is the number of where a thread is; or 0, where there is no thread
abbrev pub HasNumber : List Thread → Option Thread → ℕ → Type 0
HasNumber table None n = n ≡ 0
HasNumber table (Some a) n = with_number table n ≡ Some a

-- these are the numbers of where the threads are
abbrev pub HaveNumbers : List Thread → List Thread → List ℕ → Type 0
HaveNumbers table threads numbers =
    (t : ℕ) → HasNumber table (slice_get threads t) (slice_index numbers t)

-- the row has this position
pub record HasPosition (parts : Parts) (p : StoredPosition) (row : Row) : Type 0 where
  pub cells : IsListOf parts.cells.keys p.cells row.cells
  pub locks : IsListOf parts.locks.keys p.locks row.locks
  pub threads : HaveNumbers parts.threads.keys p.threads row.threads

-- the row has the position of the state
abbrev pub IsPositionOf : Parts → State → Row → Type 0
IsPositionOf parts s row = HasPosition parts (position_in s) row

-- the monitor has this number
abbrev pub IsMonitorOf : Parts → ℕ → List Shown → Type 0
IsMonitorOf parts n monitor = slice_get parts.monitors n ≡ Some monitor

-- all parts of the row are there
pub record IsWhole (parts : Parts) (row : Row) : Type 0 where
  pub position : HasPosition parts (position_at parts row) row
  pub monitor : IsMonitorOf parts row.monitor (monitor_at parts row.monitor)

-- parts may be added
pub record Grow (old new : Parts) : Type 0 where
  pub cells : Extends old.cells.keys new.cells.keys
  pub locks : Extends old.locks.keys new.locks.keys
  pub threads : Extends old.threads.keys new.threads.keys
  pub monitors : Extends old.monitors new.monitors

-- what was read for the numbers
pub record HaveRead (table : List Thread) (numbers : List ℕ) (read : List Thread) : Type 0 where
  pub eight : length read ≡ 8
  pub each : (t : ℕ) (a : Thread) → t < length numbers
      → with_number table (slice_index numbers t) ≡ Some a → slice_get read t ≡ Some a

-- ---- all rows, each with its arrival

abbrev pub Entry : Type 0
Entry = Row × Option Arrival

abbrev pub stored_of : Parts → Entry → StoredNode
stored_of parts entry = record {
  position = position_at parts entry.0;
  monitor = monitor_at parts entry.0.monitor;
  arrival = entry.1;
}

-- the nodes of these rows
abbrev pub stored_in : Parts → List Entry → List StoredNode
stored_in parts entries = map (stored_of parts) entries

-- all parts of these rows are there
abbrev pub AreWhole : Parts → List Entry → Type 0
AreWhole parts entries =
    (i : ℕ) (entry : Entry) → slice_get entries i ≡ Some entry → IsWhole parts entry.0

-- the row is at this index
abbrev pub HasRow : List Entry → Row → ℕ → Type 0
HasRow entries row index =
    (entry : Entry) × (slice_get entries index ≡ Some entry) × (entry.0 ≡ row)

-- the first row has the position of the second, and no configuration that the second does not have
abbrev pub StandsForRow : Parts → Row → Row → Type 0
StandsForRow parts one row =
    (one.cells ≡ row.cells) × (one.locks ≡ row.locks) × (one.threads ≡ row.threads)
    × IsWithin (monitor_at parts one.monitor) (monitor_at parts row.monitor)

-- the row at this index stands for this one
abbrev pub IsCoveredBy : Parts → List Entry → Row → ℕ → Type 0
IsCoveredBy parts entries row index =
    (entry : Entry) × (slice_get entries index ≡ Some entry) × StandsForRow parts entry.0 row

-- the row may have been added, with this arrival
abbrev pub AddsEntry : Row → Option Arrival → List Entry → List Entry → Type 0
AddsEntry row arrival old new = (new ≡ old) ⊎ (new ≡ old ++ (row, arrival) ∷ [])

-- the row is the one at this index, if there is one
abbrev pub IsRowAt : List Entry → ℕ → Row → Type 0
IsRowAt entries index row = (entry : Entry) → slice_get entries index ≡ Some entry → row ≡ entry.0

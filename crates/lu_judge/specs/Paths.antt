-- The histories for which the numbers of a list of beginnings stand.
use Rattle.std.specs.Prelude.{◌≡◌, ◌≢◌, ℕ, ◌<◌, ◌≤◌, zero, suc, Bool, IsTrue, List, [], ◌∷◌, ◌++◌, map, length, Option, Some, None, slice_get, vec_capacity}
use Rattle.lu_machine.specs.declared.event.Event.{Event}
use Rattle.lu_history.specs.declared.serial.SerialOp.{SerialOp}
use Rattle.lu_history.specs.Histories.{IsWellFormed}
use Rattle.lu_witness.specs.Witnesses.{IsMember, IsGood}
use Rattle.lu_judge.specs.declared.path.Beginning.{Beginning}
use Rattle.lu_judge.specs.declared.path.Path.{Path}

-- the number of the shorter beginning, and the last event
abbrev pub Line : Type 0
Line = ℕ × Event

abbrev pub lines : List Beginning → List Line
lines bs = map (λ (b : Beginning). (b.shorter, b.event)) bs

-- the shorter history and the last event
abbrev pub extended : (ℕ → List Event) → Option Line → List Event
extended shorter None = []
extended shorter (Some line) = shorter line.0 ++ line.1 ∷ []

-- the history of this number, read back in this many steps
abbrev pub read_back : ℕ → List Line → ℕ → List Event
read_back zero ls number = []
read_back (suc n) ls zero = []
read_back (suc n) ls (suc number) = extended (read_back n ls) (slice_get ls (suc number))

abbrev pub history_at : List Beginning → ℕ → List Event
history_at bs number = read_back number (lines bs) number

abbrev pub history_of : Path → List Event
history_of path = history_at path.beginnings.items path.number

-- the history has this event more
abbrev pub HasAdded : Event → Path → Path → Type 0
HasAdded event old new = history_of new ≡ history_of old ++ event ∷ []

-- each shorter beginning lies before
abbrev pub IsBack : List Line → Type 0
IsBack ls = (i : ℕ) (line : Line) → slice_get ls (suc i) ≡ Some line → line.0 ≤ i

-- the beginning of this number has the shorter one
abbrev pub IsAfter : List Line → ℕ → ℕ → Type 0
IsAfter ls shorter number = (event : Event) × (slice_get ls number ≡ Some (shorter, event))

-- the next one lies before and has the same shorter one, and the longer one has this one as its
-- shorter one
pub record AreLinks (ls : List Line) (number : ℕ) (b : Beginning) : Type 0 where
  pub lower : b.next ≢ 0 → b.next < number
  pub beside : b.next ≢ 0 → IsAfter ls b.shorter b.next
  pub above : b.longer ≢ 0 → IsAfter ls number b.longer

pub record IsPath (path : Path) : Type 0 where
  pub room : 262144 ≤ vec_capacity path.beginnings
  pub few : length path.beginnings.items ≤ 262144
  pub number : path.number < length path.beginnings.items
  pub back : IsBack (lines path.beginnings.items)
  pub links : (i : ℕ) (b : Beginning) → slice_get path.beginnings.items i ≡ Some b
      → AreLinks (lines path.beginnings.items) i b
  pub well_formed : IsWellFormed (history_of path)

-- what is said to be good is good
abbrev pub AreGoodAsMarked : List (List SerialOp) → Path → Type 0
AreGoodAsMarked members path =
    (i : ℕ) (b : Beginning) → slice_get path.beginnings.items i ≡ Some b → IsTrue b.good
    → IsGood (IsMember members) (history_at path.beginnings.items i)

-- what is said to be good stays so, for each set of serial histories
abbrev pub KeepsGood : Path → Path → Type 0
KeepsGood old new =
    (members : List (List SerialOp)) → AreGoodAsMarked members old → AreGoodAsMarked members new

-- where the history is known to be good, it is
abbrev pub TellsGood : Path → Bool → Type 0
TellsGood path known =
    (members : List (List SerialOp)) → AreGoodAsMarked members path → IsTrue known
    → IsGood (IsMember members) (history_of path)

-- what is said to be good stays so, and the history is good now, where it is for the set
abbrev pub NotesGood : Path → Path → Type 0
NotesGood old new =
    (members : List (List SerialOp)) → AreGoodAsMarked members old
    → IsGood (IsMember members) (history_of old)
    → AreGoodAsMarked members new

-- a beginning without an event, that nothing was noted of
abbrev pub IsBlank : Beginning → Type 0
IsBlank b = (b.shorter ≡ 0) × (b.next ≡ 0) × (b.longer ≡ 0) × (IsTrue b.good → ⊥)

-- the beginning of this number is that of the path with the event after it
abbrev pub IsLonger : Path → Event → ℕ → Type 0
IsLonger path event number =
    slice_get (lines path.beginnings.items) number ≡ Some (path.number, event)

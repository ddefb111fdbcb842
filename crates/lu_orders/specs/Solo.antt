-- Threads that make their last moves, each by itself.
use Rattle.std.specs.Prelude.{◌≡◌, ℕ, zero, suc, ◌<◌, ◌≤◌, Bool, true, List, [], length, Option, Some, slice_get, get_or}
use Rattle.lu_test.specs.declared.schedule.Move.{Move}
use Rattle.lu_machine.specs.declared.event.Event.{Event}
use Rattle.lu_machine.specs.Changes.{idle}
use Rattle.lu_machine.specs.Runs.{with_event}
use Rattle.lu_machine.specs.States.{State, call_count}
use Rattle.lu_machine.specs.Steps.{Step, picks_of}

-- cells and locks are the same
abbrev pub IsShared : State → State → Type 0
IsShared s r = (r.cells ≡ s.cells) × (r.locks ≡ s.locks)

-- r is the same as s for thread t: other threads may differ, and where t doesn't see cells and
-- locks, they too
pub record IsSame (sees : Bool) (t : ℕ) (s r : State) : Type 0 where
  pub component : r.component ≡ s.component
  pub matrix_is : r.matrix ≡ s.matrix
  pub stands : slice_get r.threads t ≡ slice_get s.threads t
  pub shared : sees ≡ true → IsShared s r

-- the only move of thread t
abbrev pub only_move : ℕ → Move
only_move t = record { thread = t; pick = 0 }

-- The events of a thread's last moves: for each number of moves, that of the move after which so
-- many are left.
abbrev pub LastEvents : Type 0
LastEvents = ℕ → Option Event

-- those of the last n moves, in order
abbrev pub last_events : LastEvents → ℕ → List Event
last_events event_of zero = []
last_events event_of (suc n) = with_event (event_of n) (last_events event_of n)

-- wherever it is the same for thread t as in s, t makes n moves more, with these events, without a
-- choice and whatever the others do; it keeps cells and locks, where it is to, and ends with its
-- last call
abbrev pub Solo : Bool → Bool → ℕ → LastEvents → ℕ → State → Type 0
Solo sees keeps t event_of zero s =
    (done : ℕ) × (slice_get s.threads t ≡ Some (idle done)) × (call_count s t ≤ done)
Solo sees keeps t event_of (suc n) s =
    (r : State) → IsSame sees t s r →
    (next : State) × Step r (only_move t) next (event_of n) × (picks_of r t ≡ 1)
    × (keeps ≡ true → IsShared r next) × Solo sees keeps t event_of n next

-- which threads see cells and locks, and which keep them as they are
pub record Sharing : Type 0 where
  pub sees : ℕ → Bool
  pub keeps : ℕ → Bool

-- what a thread sees, the others keep
abbrev pub AreApart : Sharing → Type 0
AreApart sharing = (t u : ℕ) → (t ≡ u → ⊥) → sharing.sees t ≡ true → sharing.keeps u ≡ true

-- what is left in s: each thread makes this many moves by itself, with these events, and what one
-- sees the others keep
pub record IsTail (s : State) (ns : List ℕ) (sharing : Sharing)
    (events_of : ℕ → LastEvents) : Type 0 where
  pub many : length ns ≡ length s.threads
  pub apart : AreApart sharing
  pub each :
      (t : ℕ) → t < length s.threads
      → Solo (sharing.sees t) (sharing.keeps t) t (events_of t) (get_or ns t 0) s

-- thread t makes n moves more, by itself
abbrev pub HasSolo : Bool → Bool → ℕ → ℕ → State → Type 0
HasSolo sees keeps t n s = (event_of : LastEvents) × Solo sees keeps t event_of n s

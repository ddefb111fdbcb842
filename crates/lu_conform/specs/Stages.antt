-- Stages: states, with how many events of a history are after them. Sets of them that no move
-- leaves which follows the history.
use Rattle.std.specs.Prelude.{◌≡◌, ℕ, ◌+◌, ◌≤◌, List, length, Option, Some, None, MatchOption, slice_get}
use Rattle.lu_test.specs.declared.schedule.Move.{Move}
use Rattle.lu_machine.specs.declared.event.Event.{Event}
use Rattle.lu_machine.specs.States.{State}
use Rattle.lu_machine.specs.Steps.{Step}

pub record Stage : Type 0 where
  pub state : State
  pub seen : ℕ

abbrev pub stage_of : State → ℕ → Stage
stage_of s seen = record { state = s; seen = seen }

-- A move with this event, or none, follows the history h, of which this many events were seen: it
-- has none, or the one that comes next. Then `after` are seen.
abbrev pub Follows : List Event → ℕ → Option Event → ℕ → Type 0
Follows h seen None after = after ≡ seen
Follows h seen (Some event) after = (slice_get h seen ≡ Some event) × (after ≡ seen + 1)

-- how many are seen after the move, or that it does not follow
abbrev pub TellsFollowing : List Event → ℕ → Option Event → Option ℕ → Type 0
TellsFollowing h seen event found =
    MatchOption found ((after : ℕ) → Follows h seen event after → ⊥) (Follows h seen event)

-- the stage is one of the list
abbrev pub IsAmong : List Stage → Stage → Type 0
IsAmong stages stage = (i : ℕ) × (slice_get stages i ≡ Some stage)

-- with each stage of the list, each to which a move of it leads that follows h
abbrev pub IsClosed : List Event → List Stage → Type 0
IsClosed h stages =
    (stage : Stage) (m : Move) (next : State) (event : Option Event) (after : ℕ) →
    IsAmong stages stage → Step stage.state m next event → Follows h stage.seen event after
    → IsAmong stages (stage_of next after)

-- the start s, before any event, and with each stage each to which a move of it leads that follows
-- the history
pub record HasAllStages (s : State) (h : List Event) (stages : List Stage) : Type 0 where
  pub start : IsAmong stages (stage_of s 0)
  pub closed : IsClosed h stages

-- a list of no more than this many stages has all of them
abbrev pub HasFewStages : State → List Event → ℕ → Type 0
HasFewStages s h most =
    (stages : List Stage) × HasAllStages s h stages × (length stages ≤ most)

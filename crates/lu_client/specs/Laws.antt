-- Laws of clients.
use Rattle.std.specs.Prelude.{◌≡◌, ◌↔◌, ℕ, List, map, Option, Some, slice_get}
use Rattle.std.specs.Option.{option_map}
use Rattle.lu_component.specs.Component.{Component}
use Rattle.lu_test.specs.declared.schedule.Move.{Move}
use Rattle.lu_test.specs.Matrix.{Matrix, cut}
use Rattle.lu_machine.specs.declared.event.Event.{Event}
use Rattle.lu_machine.specs.declared.thread.Thread.{Thread}
use Rattle.lu_machine.specs.States.{State, call_count, with_standing}
use Rattle.lu_machine.specs.Steps.{Step}
use Rattle.lu_machine.specs.Runs.{Leads}
use Rattle.lu_machine.specs.Starts.{IsStart}
use Rattle.lu_machine.specs.Ends.{IsEnded}
use Rattle.lu_serial.specs.Serial.{HasOpen}
use Rattle.lu_serial.specs.Cuts.{AreLengths}
use Rattle.lu_serial.specs.Whole.{made_calls}
use Rattle.lu_client.specs.Rounds.{IsAllowed, IsUnrolledFrom, times, Way}
use Rattle.lu_client.specs.Rounds.Way.{InOrder}
use Rattle.lu_client.specs.Clients.{AllBlocked, ClientLeads, ClientStep, HasCallLeft, HasNext, StepOn, around, client_matrix, client_of, event_in, turned}

-- ---- unrolled matrices

-- a cut of an unrolled matrix is an unrolled matrix
abbrev pub CutIsUnrolled : Type 0
CutIsUnrolled =
    (way : Way) (matrix big : Matrix) (lengths : List ℕ) →
    IsUnrolledFrom way matrix big → AreLengths big lengths
    → IsUnrolledFrom way matrix (cut big lengths)

-- so is the matrix with each line so many times, if these are allowed
abbrev pub TimesIsUnrolled : Type 0
TimesIsUnrolled =
    (rounds : Option ℕ) (matrix : Matrix) (n : ℕ) →
    IsAllowed rounds n → IsUnrolledFrom (InOrder rounds) matrix (times n matrix)

-- ---- moves

-- where an unrolled matrix starts, so does the client
abbrev pub ClientStarts : Type 0
ClientStarts =
    (c : Component) (way : Way) (matrix big : Matrix) (s : State) →
    IsUnrolledFrom way matrix big → IsStart c big s
    → IsStart c (client_matrix way matrix) (client_of way matrix s)

-- a move of an unrolled matrix is one of the client, on calls of which it makes the same next
abbrev pub StepToClient : Type 0
StepToClient =
    (way : Way) (matrix calls : Matrix) (s : State) (m : Move) (next : State)
    (event : Option Event) →
    HasNext way (client_matrix way matrix) calls s m.thread → Step s m next event
    → StepOn way calls (client_of way matrix s) m (client_of way matrix next)
    (option_map (event_in way matrix) event)

-- so each move of an unrolled matrix is a move of the client
abbrev pub MoveToClient : Type 0
MoveToClient =
    (way : Way) (matrix : Matrix) (s : State) (m : Move) (next : State)
    (event : Option Event) →
    IsUnrolledFrom way matrix s.matrix → Step s m next event
    → ClientStep way (client_of way matrix s) m (client_of way matrix next)
    (option_map (event_in way matrix) event)

-- The client's move leads from the state s of an unrolled matrix to a state for which the client's
-- is b, with this event.
pub record HasMoved (way : Way) (matrix : Matrix) (s : State) (m : Move) (b : State)
    (event : Option Event) : Type 0 where
  pub next : State
  pub made : Option Event
  pub step : Step s m next made
  pub is : client_of way matrix next ≡ b
  pub counted : option_map (event_in way matrix) made ≡ event

-- and each of the client's is one of the unrolled matrix, if it has the call
abbrev pub MoveFromClient : Type 0
MoveFromClient =
    (way : Way) (matrix calls : Matrix) (s : State) (m : Move) (b : State)
    (event : Option Event) →
    HasNext way (client_matrix way matrix) calls s m.thread
    → StepOn way calls (client_of way matrix s) m b event
    → HasMoved way matrix s m b event

-- an operation that is open needs no call
abbrev pub OpenFromClient : Type 0
OpenFromClient =
    (way : Way) (matrix : Matrix) (s : State) (m : Move) (b : State) (event : Option Event) →
    HasOpen s m.thread → ClientStep way (client_of way matrix s) m b event
    → HasMoved way matrix s m b event

-- and where lines are made in order, it is enough that a call is left
abbrev pub MoveInOrder : Type 0
MoveInOrder =
    (rounds : Option ℕ) (matrix : Matrix) (s : State) (m : Move) (b : State)
    (event : Option Event) →
    IsUnrolledFrom (InOrder rounds) matrix s.matrix → HasCallLeft s m.thread
    → ClientStep (InOrder rounds) (client_of (InOrder rounds) matrix s) m b event
    → HasMoved (InOrder rounds) matrix s m b event

-- so states with one client state, and the same next call, have the same moves
abbrev pub SameMoves : Type 0
SameMoves =
    (way : Way) (matrix calls : Matrix) (s other : State) (m : Move) (next : State)
    (event : Option Event) →
    client_of way matrix s ≡ client_of way matrix other
    → HasNext way (client_matrix way matrix) calls s m.thread
    → HasNext way (client_matrix way matrix) calls other m.thread → Step s m next event
    → HasMoved way matrix other m (client_of way matrix next)
    (option_map (event_in way matrix) event)

-- where lines are made in order, they have the same next call if one is left
abbrev pub SameInOrder : Type 0
SameInOrder =
    (rounds : Option ℕ) (matrix : Matrix) (s other : State) (m : Move) (next : State)
    (event : Option Event) →
    IsUnrolledFrom (InOrder rounds) matrix s.matrix
    → IsUnrolledFrom (InOrder rounds) matrix other.matrix
    → client_of (InOrder rounds) matrix s ≡ client_of (InOrder rounds) matrix other
    → HasCallLeft other m.thread → Step s m next event
    → HasMoved (InOrder rounds) matrix other m (client_of (InOrder rounds) matrix next)
    (option_map (event_in (InOrder rounds) matrix) event)

-- where lines are made in order, the client moves as the machine does on its own matrix
abbrev pub MovesInOrder : Type 0
MovesInOrder =
    (rounds : Option ℕ) (a : State) (m : Move) (b : State) (event : Option Event) →
    ClientStep (InOrder rounds) a m b event ↔ StepOn (InOrder rounds) a.matrix a m b event

-- in a state of a client no thread comes around again
abbrev pub AroundOnce : Type 0
AroundOnce = (way : Way) (s : State) → around way (around way s) ≡ around way s

-- and after its move no other thread does than its own
abbrev pub OnlyMoverTurns : Type 0
OnlyMoverTurns =
    (way : Way) (calls : Matrix) (a : State) (m : Move) (next : State) (event : Option Event)
    (thread : Thread) →
    around way a ≡ a → Step (record a { matrix = calls }) m next event
    → slice_get next.threads m.thread ≡ Some thread
    → around way (record next { matrix = a.matrix })
    ≡ with_standing (record next { matrix = a.matrix }) m.thread
    (record thread { done = turned way (call_count a m.thread) thread.done })

-- ---- schedules

-- each schedule of an unrolled matrix is one of the client
abbrev pub ScheduleToClient : Type 0
ScheduleToClient =
    (way : Way) (matrix : Matrix) (s : State) (u : List Move) (end : State)
    (history : List Event) →
    IsUnrolledFrom way matrix s.matrix → Leads s u end history
    → ClientLeads way (client_of way matrix s) u (client_of way matrix end)
    (map (event_in way matrix) history)

-- a list of states that has where the client starts, and with each state all to which its moves lead
pub record IsClosed (way : Way) (start : State) (list : List State) : Type 0 where
  pub starts : (i : ℕ) × (slice_get list i ≡ Some start)
  pub closed : (i : ℕ) (a : State) (m : Move) (b : State) (event : Option Event)
      → slice_get list i ≡ Some a → ClientStep way a m b event
      → (k : ℕ) × (slice_get list k ≡ Some b)

-- has the client's state for each schedule of each unrolled matrix
abbrev pub ClosedHasAll : Type 0
ClosedHasAll =
    (c : Component) (way : Way) (matrix big : Matrix) (s start : State)
    (list : List State) (u : List Move) (end : State) (history : List Event) →
    IsUnrolledFrom way matrix big → IsStart c big s
    → IsStart c (client_matrix way matrix) start → IsClosed way start list
    → Leads s u end history
    → (i : ℕ) × (slice_get list i ≡ Some (client_of way matrix end))

-- a schedule of some unrolled matrix, from its start to a state for which the client's is b, with
-- this history
pub record IsScheduleTo (c : Component) (way : Way) (matrix : Matrix) (u : List Move)
    (b : State) (history : List Event) : Type 0 where
  pub big : Matrix
  pub unrolled : IsUnrolledFrom way matrix big
  pub start : State
  pub is_start : IsStart c big start
  pub end : State
  pub made : List Event
  pub leads : Leads start u end made
  pub is : client_of way matrix end ≡ b
  pub counted : map (event_in way matrix) made ≡ history

-- each schedule of the client is one of some unrolled matrix
abbrev pub ScheduleFromClient : Type 0
ScheduleFromClient =
    (c : Component) (way : Way) (matrix : Matrix) (a : State) (u : List Move) (b : State)
    (history : List Event) →
    IsStart c (client_matrix way matrix) a → ClientLeads way a u b history
    → IsScheduleTo c way matrix u b history

-- ---- ends

-- where an unrolled matrix has ended, each open operation of the client is blocked
abbrev pub EndedIsBlocked : Type 0
EndedIsBlocked =
    (way : Way) (matrix : Matrix) (s : State) →
    IsEnded s → AllBlocked (client_of way matrix s)

-- The schedule u, of this matrix that is unrolled from the other, has ended, in a state for which
-- the client's is b.
pub record HasEnded (c : Component) (way : Way) (matrix smaller : Matrix) (u : List Move)
    (b : State) (history : List Event) : Type 0 where
  pub unrolled : IsUnrolledFrom way matrix smaller
  pub start : State
  pub is_start : IsStart c smaller start
  pub end : State
  pub leads : Leads start u end history
  pub ended : IsEnded end
  pub is : client_of way matrix end ≡ b

-- where each open operation of the client is blocked, the schedule has ended over the matrix cut to
-- the calls made in it
abbrev pub BlockedHasEnded : Type 0
BlockedHasEnded =
    (c : Component) (way : Way) (matrix big : Matrix) (s : State) (u : List Move)
    (end : State) (history : List Event) →
    IsUnrolledFrom way matrix big → IsStart c big s → Leads s u end history
    → AllBlocked (client_of way matrix end)
    → AreLengths big (made_calls end)
    × HasEnded c way matrix (cut big (made_calls end)) u (client_of way matrix end) history

-- so each schedule of the client to where that is so has ended over some unrolled matrix
abbrev pub ClientHasEnded : Type 0
ClientHasEnded =
    (c : Component) (way : Way) (matrix : Matrix) (a : State) (u : List Move) (b : State)
    (history : List Event) →
    IsStart c (client_matrix way matrix) a → ClientLeads way a u b history → AllBlocked b
    → (smaller : Matrix) × (made : List Event)
    × HasEnded c way matrix smaller u b made
    × (map (event_in way matrix) made ≡ history)

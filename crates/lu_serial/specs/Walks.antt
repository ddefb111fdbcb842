-- What the steps of the walk promise one another.
use Rattle.std.specs.Prelude.{◌≡◌, ◌≢◌, ℕ, ◌+◌, ◌-◌, ◌*◌, ◌^◌, ◌<◌, ◌≤◌, ◌⊎◌, true, List, [], ◌∷◌, ◌++◌, length, All, Option, Some, None, slice_get}
use Rattle.std.specs.Option.{option_map}
use Rattle.lu_component.specs.Component.{IsComponent}
use Rattle.lu_test.specs.declared.matrix.Call.{Call as ACall}
use Rattle.lu_test.specs.declared.schedule.Move.{Move}
use Rattle.lu_test.specs.Schedule.{IsMove, AreMoves}
use Rattle.lu_machine.specs.declared.event.Event.{Event}
use Rattle.lu_machine.specs.declared.event.Event.TheVariants.{Call, Return}
use Rattle.lu_machine.specs.declared.thread.Thread.{Thread}
use Rattle.lu_machine.specs.declared.undo.Undo.{Undo}
use Rattle.lu_machine.specs.declared.thread.Activity.TheVariants.{Idle}
use Rattle.lu_machine.specs.States.{State, call_count}
use Rattle.lu_machine.specs.Steps.{IsFeasible, Step}
use Rattle.lu_machine.specs.Order.{IsSmaller}
use Rattle.lu_machine.specs.Runs.{Leads}
use Rattle.lu_history.specs.declared.serial.SerialOp.{SerialOp}
use Rattle.lu_trie.specs.Members.{contains}
use Rattle.lu_trie.specs.Conflicts.{IsDeterministic}
use Rattle.lu_serial.specs.declared.node.OpenCall.{OpenCall}
use Rattle.lu_serial.specs.declared.node.SerialNode.{SerialNode}
use Rattle.lu_serial.specs.declared.walk.WalkState.{WalkState}
use Rattle.lu_serial.specs.declared.walk.EarlyEnd.{EarlyEnd}
use Rattle.lu_serial.specs.declared.walk.EarlyEnd.TheVariants.{Cut, Stopped}
use Rattle.lu_machine.specs.Schedules.{BeginsWith}
use Rattle.lu_serial.specs.Serial.{HasOpen, IsByOpen, IsSerialFrom, HasTaken, IsSeriallyEnded, IsSeriallyCut, entry_of, entries_of, stuck_of}

-- the move goes on serially
abbrev pub IsSerialMove : State → Move → Type 0
IsSerialMove s m = IsFeasible s m × IsByOpen s m

abbrev pub HasSerialMove : State → Type 0
HasSerialMove s = (m : Move) × IsSerialMove s m

-- the threads from `first` to before `end` are those whose moves may go on serially
pub record AreTurns (s : State) (first end : ℕ) : Type 0 where
  pub by : (m : Move) → first ≤ m.thread → m.thread < end → IsByOpen s m
  pub all : (m : Move) → IsSerialMove s m → (first ≤ m.thread) × (m.thread < end)

-- the operation that is open in s, if any
abbrev pub IsOpenIn : State → Option OpenCall → Type 0
IsOpenIn s None = (t : ℕ) → HasOpen s t → ⊥
IsOpenIn s (Some current) = HasOpen s current.thread × ((t : ℕ) → HasOpen s t → t ≡ current.thread)

-- the operation that is open after a move of thread t with this event
abbrev pub open_after : Option OpenCall → ℕ → Option Event → Option OpenCall
open_after current t None =
    option_map (λ (o : OpenCall). record { thread = o.thread; taken = o.taken + 1 }) current
open_after current t (Some (Call u k)) = Some (record { thread = t; taken = 0 })
open_after current t (Some (Return u k outcome)) = None

abbrev pub HasCountRoom : Option OpenCall → Type 0
HasCountRoom None = Unit {0}
HasCountRoom (Some current) = current.taken + 1 < 2 ^ 16

-- the open operation has taken as many moves as it may
abbrev pub IsFull : Option OpenCall → ℕ → Type 0
IsFull None bound = ⊥
IsFull (Some current) bound = current.taken ≡ bound

abbrev pub entry_if : Option Event → List SerialOp
entry_if None = []
entry_if (Some e) = entry_of e

-- the move was made, and the undo's event, or none, is its
abbrev pub HasMoved : Move → Undo → SerialNode → SerialNode → Type 0
HasMoved m undo old new = Step old.machine m new.machine undo.event

-- the entry of the undo's event, if it has one, was added
abbrev pub HasEntered : Undo → SerialNode → SerialNode → Type 0
HasEntered undo old new = new.entries.items ≡ old.entries.items ++ entry_if undo.event

-- the entry of the undo's event, if it has one, was taken away
abbrev pub HasLeft : Undo → SerialNode → SerialNode → Type 0
HasLeft undo old new =
    (entries : List SerialOp) → old.entries.items ≡ entries ++ entry_if undo.event
    → new.entries.items ≡ entries

-- the serial operations, and the open one, which is stuck
abbrev pub ended_entries : List SerialOp → Option OpenCall → List SerialOp
ended_entries entries None = entries
ended_entries entries (Some current) = entries ++ stuck_of current.thread ∷ []

abbrev pub HasTakenOf : State → List Move → State → ℕ → Option OpenCall → Type 0
HasTakenOf start u s bound None = Unit {0}
HasTakenOf start u s bound (Some current) =
    HasTaken start u s current.thread current.taken × (current.taken ≤ bound)

-- how many calls have not returned
abbrev pub left_of : List (List ACall) → List Thread → ℕ
left_of [] threads = 0
left_of (calls ∷ rows) [] = 0
left_of (calls ∷ rows) (thread ∷ threads) = (length calls - thread.done) + left_of rows threads

-- the most moves that can go on serially: a call and `bound` moves for each operation that is to
-- come, and for the open one what it may still take
abbrev pub moves_left : ℕ → State → Option OpenCall → ℕ
moves_left bound s None = left_of s.matrix.threads s.threads * (bound + 1)
moves_left bound s (Some current) =
    (left_of s.matrix.threads s.threads - 1) * (bound + 1) + (bound - current.taken)

-- each open operation is a call of the matrix
abbrev pub AreCalls : State → Type 0
AreCalls s =
    (t : ℕ) (thread : Thread) → slice_get s.threads t ≡ Some thread → thread.activity ≢ Idle
    → thread.done < call_count s t

-- The path is within the limits of schedules, and stays so.
pub record StaysWithin (bound : ℕ) (u : List Move) (s : State)
    (current : Option OpenCall) : Type 0 where
  pub component : IsComponent s.component
  pub threads : length s.threads ≤ 8
  pub calls : AreCalls s
  pub moves : All IsMove u
  pub short : length u + moves_left bound s current ≤ 4112

-- The serial schedule u leads to s, with these serial operations, and this operation is current.
pub record IsAt (start : State) (bound : ℕ) (u : List Move) (s : State) (entries : List SerialOp)
    (current : Option OpenCall) : Type 0 where
  pub serial : IsSerialFrom start u
  pub history : List Event
  pub leads : Leads start u s history
  pub are : entries ≡ entries_of history
  pub opens : IsOpenIn s current
  pub taken : HasTakenOf start u s bound current
  pub within : StaysWithin bound u s current

-- No schedule of this part is cut, and these are the histories of those that are serially ended.
pub record AreShown (s : State) (bound : ℕ) (Part : List Move → Type 0)
    (shown : List (List SerialOp)) : Type 0 where
  pub uncut : (u : List Move) → Part u → IsSeriallyCut s bound u → ⊥
  pub each : (u : List Move) (q : List SerialOp) → Part u → IsSeriallyEnded s u q
      → contains shown q ≡ true
  pub only : (q : List SerialOp) → contains shown q ≡ true
      → (u : List Move) × Part u × IsSeriallyEnded s u q

-- all histories of this part were shown, and this is known of them
abbrev pub Shows : State → ℕ → (List Move → Type 0) → (List (List SerialOp) → Type 0) → Type 0
Shows s bound Part Known =
    (shown : List (List SerialOp)) × AreShown s bound Part shown × Known shown

-- a visitor that was shown one history more has taken it, or stops there
abbrev pub TakesOrStops : {H S : Type 0} → (H → List (List SerialOp) → Type 0)
    → (H → List (List SerialOp) → Type 0) → (List SerialOp → S → Type 0) → List SerialOp → Option S
    → Type 0
TakesOrStops {H} Old New Stops q None =
    (first : H) (shown : List (List SerialOp)) → Old first shown → New first (q ∷ shown)
TakesOrStops {H} Old New Stops q (Some stop) =
    ((first : H) (shown : List (List SerialOp)) → Old first shown → New first shown) × Stops q stop

-- the visitor gathers this history, or stops there
abbrev pub GathersHistory : {H S : Type 0} → (H → H → List (List SerialOp) → Type 0)
    → (H → List SerialOp → S → Type 0) → H → H → List SerialOp → Option S → Type 0
GathersHistory was_shown stops old new q =
    TakesOrStops (was_shown old) (was_shown new) (stops new) q

-- the visitor of a walk gathers the history of a schedule that ends at its node, or stops there
abbrev pub Gathers : {H S : Type 0} → (H → H → List (List SerialOp) → Type 0)
    → (H → List SerialOp → S → Type 0) → WalkState H → Option OpenCall → WalkState H → Option S
    → Type 0
Gathers was_shown stops old current new =
    GathersHistory was_shown stops old.visitor new.visitor
    (ended_entries old.node.entries.items current)

-- a walk that passed leaves path, machine and entries as they were, and one that halted leaves a
-- schedule at the path
abbrev pub IsHome : {H S : Type 0} → WalkState H → Option (EarlyEnd S) → WalkState H → Type 0
IsHome old None new =
    (new.path.items ≡ old.path.items) × (new.node.machine ≡ old.node.machine)
    × (new.node.entries.items ≡ old.node.entries.items)
IsHome old (Some halt) new = AreMoves new.path.items

-- the schedule v is smaller than u, or begins with it
abbrev pub IsUpTo : List Move → List Move → Type 0
IsUpTo u v = IsSmaller v u ⊎ BeginsWith v u

-- the path led here, and all smaller schedules were shown
abbrev pub IsReady : State → ℕ → List Move → SerialNode → Option OpenCall
    → (List (List SerialOp) → Type 0) → Type 0
IsReady start bound path node current Known =
    IsAt start bound path node.machine node.entries.items current
    × Shows start bound (λ v. IsSmaller v path) Known

-- the walk's path led here, and all smaller schedules were shown to its visitor, which was once the
-- first
abbrev pub IsReadyState : {H : Type 0} → State → ℕ → WalkState H → Option OpenCall
    → (H → H → List (List SerialOp) → Type 0) → H → Type 0
IsReadyState start bound walk_state current was_shown first =
    IsReady start bound walk_state.path.items walk_state.node current
    (was_shown walk_state.visitor first)

-- a walk can go on from here
abbrev pub CanWalk : {H : Type 0} → (H → H → List (List SerialOp) → Type 0) → ℕ → WalkState H
    → Option OpenCall → Type 0
CanWalk {H} was_shown bound walk_state current =
    (start : State) × (first : H) × IsReadyState start bound walk_state current was_shown first

-- the schedule u is cut, or ends with a history at which the visitor stops
abbrev pub HaltsAt : {S : Type 0} → State → ℕ → (List SerialOp → S → Type 0) → EarlyEnd S
    → List Move
    → Type 0
HaltsAt s bound Stops Cut u = IsSeriallyCut s bound u
HaltsAt s bound Stops (Stopped stop) u = (q : List SerialOp) × IsSeriallyEnded s u q × Stops q stop

-- A walk that passed has shown all schedules up to those that begin with the path; one that halted
-- all that are smaller than the one there.
abbrev pub Walked : {S : Type 0} → State → ℕ → List Move → (List (List SerialOp) → Type 0)
    → (List SerialOp → S → Type 0) → Option (EarlyEnd S) → List Move → Type 0
Walked s bound before Known Stops None after = Shows s bound (IsUpTo before) Known
Walked s bound before Known Stops (Some halt) after =
    Shows s bound (λ v. IsSmaller v after) Known × HaltsAt s bound Stops halt after

-- what a walk does, whatever start leads here
abbrev pub Walks : {H S : Type 0} → (H → H → List (List SerialOp) → Type 0)
    → (H → List SerialOp → S → Type 0) → ℕ → WalkState H → Option OpenCall → WalkState H
    → Option (EarlyEnd S)
    → Type 0
Walks {H} was_shown stops bound old current new halt =
    (start : State) (first : H) → IsReadyState start bound old current was_shown first
    → Walked start bound old.path.items (was_shown new.visitor first) (stops new.visitor) halt
    new.path.items

-- the members are the histories shown, and none of them conflict
abbrev pub Learns : List (List SerialOp) → List (List SerialOp) → Type 0
Learns members shown =
    IsDeterministic members × ((q : List SerialOp) → contains members q ≡ contains shown q)

-- the set is still what it was at first, and each history shown is a member
abbrev pub Seeks : List (List SerialOp) → List (List SerialOp) → List (List SerialOp) → Type 0
Seeks first now shown =
    (now ≡ first) × ((q : List SerialOp) → contains shown q ≡ true → contains first q ≡ true)
